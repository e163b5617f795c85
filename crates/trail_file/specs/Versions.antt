-- The text of a program's version (own profile).
use Rattle.std.specs.Prelude.{◌≡◌, ◌<◌, ◌^◌, ℕ, List, ◌∷◌, ◌++◌, Result, Ok, IfOk}
use Rattle.std.specs.Fmt.{decimal}
use Rattle.trail_file.specs.declared.version.Version.{Version}
use Rattle.trail_file.specs.declared.version.BadVersion.{BadVersion}

-- the numbers fit the type
pub record IsVersion (v : Version) : Type 0 where
  pub major : v.major < 2 ^ 16
  pub minor : v.minor < 2 ^ 16
  pub patch : v.patch < 2 ^ 16

-- three decimal numbers without leading zeros, joined by dots
abbrev pub version_text : Version → List ℕ
version_text v = decimal v.major ++ 46 ∷ (decimal v.minor ++ 46 ∷ decimal v.patch)

-- a text reads as the version that is written so, and as no other
abbrev pub IsVersionRead : List ℕ → Result Version BadVersion → Type 0
IsVersionRead text result =
    IfOk result (λ v. IsVersion v × (text ≡ version_text v))
    × ((v : Version) → IsVersion v → text ≡ version_text v → result ≡ Ok v)
