-- The canonical encoding of a value, which the writer gives: each length in its shortest form, and 01 for true (own profile).
use Rattle.std.specs.Prelude.{◌≡◌, ℕ, ◌<◌, ◌^◌, nat_lt, List, [], ◌∷◌, ◌++◌, length, if◌then◌else◌, ◌+◌, Option, MatchOption}
use Rattle.std.specs.Int.{w8, w16, w32, w64, to_be_bytes, cast_unsigned}
use Rattle.cosem_data.specs.Tree.{Tree, Trees, null_data, array, structure, boolean, double_long, double_long_unsigned, octet_string, visible_string, integer, long, unsigned, long_unsigned, long64, long64_unsigned, enumerated, no_trees, more_trees, parts}
use Rattle.cosem_data.specs.Kinds.{kind_of, tag_of}
use Rattle.cosem_axdr.specs.Grammar.{Form, itself, one, two, three, four, length_in}

-- the first form that holds the number
abbrev pub shortest_form : ℕ → Form
shortest_form n = if nat_lt n 128 then itself else if nat_lt n (2 ^ 8) then one else if nat_lt n (2 ^ 16) then two else if nat_lt n (2 ^ 24) then three else four

-- a length or a count in its shortest form (as in ITU-T X.690, 10.1)
unfoldable pub shortest : ℕ → List ℕ
shortest n = length_in (shortest_form n) n

abbrev mutual
  -- what stands behind the tag (IEC 62056-5-3, type Data)
  pub content : Tree → List ℕ
  content null_data = []
  content (array ts) = shortest (length (parts ts)) ++ all ts
  content (structure ts) = shortest (length (parts ts)) ++ all ts
  content (boolean b) = (if b then 1 else 0) ∷ []
  content (double_long z) = to_be_bytes w32 (cast_unsigned w32 z)
  content (double_long_unsigned n) = to_be_bytes w32 n
  content (octet_string s) = shortest (length s) ++ s
  content (visible_string s) = shortest (length s) ++ s
  content (integer z) = to_be_bytes w8 (cast_unsigned w8 z)
  content (long z) = to_be_bytes w16 (cast_unsigned w16 z)
  content (unsigned n) = to_be_bytes w8 n
  content (long_unsigned n) = to_be_bytes w16 n
  content (long64 z) = to_be_bytes w64 (cast_unsigned w64 z)
  content (long64_unsigned n) = to_be_bytes w64 n
  content (enumerated n) = to_be_bytes w8 n

  -- the parts, one after the other
  pub all : Trees → List ℕ
  all no_trees = []
  all (more_trees t ts) = (tag_of (kind_of t) ∷ content t) ++ all ts

-- the canonical encoding of the value
abbrev pub canonical : Tree → List ℕ
canonical t = tag_of (kind_of t) ∷ content t

-- every length and every count of the value is below 2 ^ 32, so that a form holds it
abbrev mutual
  pub HasLengths : Tree → Type 0
  HasLengths (array ts) = (length (parts ts) < 2 ^ 32) × HaveLengths ts
  HasLengths (structure ts) = (length (parts ts) < 2 ^ 32) × HaveLengths ts
  HasLengths (octet_string s) = length s < 2 ^ 32
  HasLengths (visible_string s) = length s < 2 ^ 32
  HasLengths _ = Unit {0}

  -- and so for each of the parts
  pub HaveLengths : Trees → Type 0
  HaveLengths no_trees = Unit {0}
  HaveLengths (more_trees t ts) = HasLengths t × HaveLengths ts

-- the new list begins with the old one
abbrev pub Extends : List ℕ → List ℕ → Type 0
Extends old new = (more : List ℕ) × (new ≡ old ++ more)

-- what is left of a room behind so many bytes: nothing where they don't fit
abbrev pub IsRoomAfter : ℕ → ℕ → Option ℕ → Type 0
IsRoomAfter taken room left = MatchOption left (room < taken) (λ rest. rest + taken ≡ room)
