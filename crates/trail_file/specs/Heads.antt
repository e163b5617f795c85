-- The text of a trail's head (own profile).
use Rattle.std.specs.Prelude.{◌≡◌, ℕ, List, ◌++◌, length, Result, Ok, IfOk, codes}
use Rattle.hex.specs.Hex.{IsBytes, encode_lower}
use Rattle.trail_file.specs.Text.{Entry, block}
use Rattle.trail_file.specs.Versions.{IsVersion, version_text}
use Rattle.trail_file.specs.declared.head.Head.{Head}
use Rattle.trail_file.specs.declared.head.BadHead.{BadHead}

-- the fields fit their types
pub record IsHead (h : Head) : Type 0 where
  pub version : IsVersion h.version
  pub long : length h.digest ≡ 32
  pub bytes : IsBytes h.digest

-- behind the latch: the program, and its version
abbrev pub head_note : Head → List ℕ
head_note h = codes " cosem-flow " ++ version_text h.version

-- a comment too: the digest of the configuration, in lower case
abbrev pub head_line : Head → List ℕ
head_line h = codes "# sha256 " ++ encode_lower h.digest

-- the entry that a trail's file begins with
abbrev pub head_entry : Head → Entry
head_entry h = (head_note h, head_line h)

-- its two lines
abbrev pub head_text : Head → List ℕ
head_text h = block (head_note h) (head_line h)

-- a text reads as the head that is written so, and as no other
abbrev pub IsHeadRead : List ℕ → Result Head BadHead → Type 0
IsHeadRead text result =
    IfOk result (λ h. IsHead h × (text ≡ head_text h))
    × ((h : Head) → IsHead h → text ≡ head_text h → result ≡ Ok h)
