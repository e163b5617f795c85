-- The lines of a head.
use Rattle.std.proofs.Common.{◌≡◌, ℕ, ◌≤◌, true, List, [], ◌∷◌, ◌++◌, length, codes, refl, sym, ◌∙◌, ap, arith, append_assoc, length-append}
use Rattle.std.proofs.lemmas.Fmt.{length-decimal-le}
use Rattle.std.specs.Fmt.{decimal}
use Rattle.hex.proofs.HexLemmas.{length-encode_with}
use Rattle.hex.specs.Hex.{encode_lower, lower_digits}
use Rattle.trail_file.specs.Text.{is_one_line, recovered}
use Rattle.trail_file.specs.Rest.{IsBatch}
use Rattle.trail_file.specs.Versions.{IsVersion, version_text}
use Rattle.trail_file.specs.Heads.{IsHead, head_entry, head_line, head_note, head_text}
use Rattle.trail_file.specs.declared.version.Version.{Version}
use Rattle.trail_file.specs.declared.head.Head.{Head}
use Rattle.trail_file.proofs.Lacking.{lacks_append, lacks_cons, lacks_decimal, one_line_hex}
use Rattle.trail_file.proofs.Walks.{block_batch, block_entry}

pub version_one_line : (v : Version) → IsVersion v → is_one_line (version_text v) ≡ true
version_one_line v is =
    lacks_append 10 (decimal v.major) (46 ∷ (decimal v.minor ++ 46 ∷ decimal v.patch)) (lacks_decimal 10 (omega arith) v.major (omega (arith, is.major)))
    (lacks_cons 10 46 (decimal v.minor ++ 46 ∷ decimal v.patch) (omega arith)
    (lacks_append 10 (decimal v.minor) (46 ∷ decimal v.patch) (lacks_decimal 10 (omega arith) v.minor (omega (arith, is.minor)))
    (lacks_cons 10 46 (decimal v.patch) (omega arith) (lacks_decimal 10 (omega arith) v.patch (omega (arith, is.patch))))))

pub note_one_line : (h : Head) → IsHead h → is_one_line (head_note h) ≡ true
note_one_line h is = lacks_append 10 (codes " cosem-flow ") (version_text h.version) refl (version_one_line h.version is.version)

pub line_one_line : (h : Head) → is_one_line (head_line h) ≡ true
line_one_line h = lacks_append 10 (codes "# sha256 ") (encode_lower h.digest) refl (one_line_hex h.digest)

-- a head is one entry, and a batch
pub head_recovered : (bytes : List ℕ) (h : Head) → IsHead h → bytes ≡ head_text h → recovered bytes ≡ head_entry h ∷ []
head_recovered bytes h is text = block_entry bytes (head_note h) (head_line h) text (note_one_line h is) (line_one_line h)

pub head_batch : (bytes : List ℕ) (h : Head) → IsHead h → bytes ≡ head_text h → IsBatch bytes
head_batch bytes h is text = block_batch bytes (head_note h) (head_line h) text (note_one_line h is) (line_one_line h)

version_short : (v : Version) → IsVersion v → length (version_text v) ≤ 17
version_short v is =
    omega (
      arith,
      length-append (decimal v.major) (46 ∷ (decimal v.minor ++ 46 ∷ decimal v.patch)),
      length-append (decimal v.minor) (46 ∷ decimal v.patch),
      length-decimal-le 5 v.major (omega arith) (omega (arith, is.major)) (omega (arith, is.major)),
      length-decimal-le 5 v.minor (omega arith) (omega (arith, is.minor)) (omega (arith, is.minor)),
      length-decimal-le 5 v.patch (omega arith) (omega (arith, is.patch)) (omega (arith, is.patch)),
    )

-- a head is short
pub head_short : (h : Head) → IsHead h → length (head_text h) ≤ 105
head_short h is =
    let text = length-append (head_note h) (10 ∷ (head_line h ++ 10 ∷ [])) in
    let below = length-append (head_line h) (10 ∷ []) in
    let note = length-append (codes " cosem-flow ") (version_text h.version) in
    let line = length-append (codes "# sha256 ") (encode_lower h.digest) in
    let short = version_short h.version is.version in
    let digits = length-encode_with lower_digits h.digest in
    let long = is.long in
    omega (arith, text, below, note, line, short, digits, long)

-- what is written piece by piece
pub head_pieces : (h : Head) (digits : List ℕ) → digits ≡ encode_lower h.digest → codes "# cosem-flow " ++ (version_text h.version ++ (codes "\n# sha256 " ++ (digits ++ codes "\n"))) ≡ head_text h
head_pieces h digits is =
    ap (λ (ds : List ℕ). codes "# cosem-flow " ++ (version_text h.version ++ (codes "\n# sha256 " ++ (ds ++ codes "\n")))) is
    ∙ sym (ap (λ (l : List ℕ). 35 ∷ l) (append_assoc (codes " cosem-flow ") (version_text h.version) (10 ∷ (head_line h ++ 10 ∷ []))))
