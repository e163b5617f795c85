-- The numbers of a version's text.
use Rattle.std.proofs.Common.{◌≡◌, ℕ, ◌<◌, ◌^◌, true, List, ◌∷◌, ◌++◌, sym, ◌∙◌, arith}
use Rattle.std.specs.Fmt.{decimal}
use Rattle.trail_file.specs.Text.{lacks}
use Rattle.trail_file.specs.Versions.{IsVersion, version_text}
use Rattle.trail_file.specs.declared.version.Version.{Version}
use Rattle.trail_file.proofs.Lacking.{lacks_decimal, same_parts}

-- decimal digits are no dot
no_dot : (n : ℕ) → n < 2 ^ 16 → lacks 46 (decimal n) ≡ true
no_dot n small = lacks_decimal 46 (omega arith) n (omega arith)

pub at_major : (text major rest : List ℕ) (v : Version) → IsVersion v → text ≡ version_text v → text ≡ major ++ 46 ∷ rest → lacks 46 major ≡ true
    → (major ≡ decimal v.major) × (rest ≡ decimal v.minor ++ 46 ∷ decimal v.patch)
at_major text major rest v is e split none =
    same_parts 46 major rest (decimal v.major) (decimal v.minor ++ 46 ∷ decimal v.patch) (sym split ∙ e) none (no_dot v.major is.major)

pub at_minor : (rest minor patch : List ℕ) (v : Version) → IsVersion v → rest ≡ decimal v.minor ++ 46 ∷ decimal v.patch → rest ≡ minor ++ 46 ∷ patch → lacks 46 minor ≡ true
    → (minor ≡ decimal v.minor) × (patch ≡ decimal v.patch)
at_minor rest minor patch v is e split none =
    same_parts 46 minor patch (decimal v.minor) (decimal v.patch) (sym split ∙ e) none (no_dot v.minor is.minor)

pub record VersionParts (v : Version) (first second third : List ℕ) : Type 0 where
  pub major : first ≡ decimal v.major
  pub minor : second ≡ decimal v.minor
  pub patch : third ≡ decimal v.patch

pub version_parts : (text major rest minor patch : List ℕ) (v : Version) → IsVersion v → text ≡ version_text v → text ≡ major ++ 46 ∷ rest → lacks 46 major ≡ true → rest ≡ minor ++ 46 ∷ patch → lacks 46 minor ≡ true
    → VersionParts v major minor patch
version_parts text major rest minor patch v is e split one below two =
    let first = at_major text major rest v is e split one in
    let second = at_minor rest minor patch v is first.1 below two in
    record { major = first.0; minor = second.0; patch = second.1 }
