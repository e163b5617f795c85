-- The encodings of a value (IEC 62056-5-3, type Data in A-XDR): a tag byte and a content. A relation, since a length has several forms and true several bytes.
use Rattle.std.specs.Prelude.{◌≡◌, ◌≢◌, FitsSigned, ℕ, ℤ, ◌<◌, ◌≤◌, ◌^◌, ◌==◌, not, List, [], ◌∷◌, ◌++◌, length}
use Rattle.std.specs.List.{AllByRecursion}
use Rattle.std.specs.Int.{Width, w8, w16, w32, w64, to_be_bytes, bytes_high_first, cast_unsigned, byte_len}
use Rattle.cosem_data.specs.Tree.{Tree, Trees, depth, null_data, array, structure, boolean, double_long, double_long_unsigned, octet_string, visible_string, integer, long, unsigned, long_unsigned, long64, long64_unsigned, enumerated, no_trees, more_trees, parts}
use Rattle.cosem_data.specs.Kinds.{kind_of, tag_of}

-- the forms of a length or a count (as in ITU-T X.690, 8.1.3): one byte, the number itself, or 81 to 84 and so many bytes; 80 and 85 to FF begin none (own profile)
pub data Form : Type 0 where
  itself : Form
  one : Form
  two : Form
  three : Form
  four : Form

-- a form holds the numbers below its limit
abbrev pub limit_of : Form → ℕ
limit_of itself = 128
limit_of one = 2 ^ 8
limit_of two = 2 ^ 16
limit_of three = 2 ^ 24
limit_of four = 2 ^ 32

-- the bytes of the number in a form, the high one first
abbrev pub length_in : Form → ℕ → List ℕ
length_in itself n = n ∷ []
length_in one n = 129 ∷ bytes_high_first 1 n
length_in two n = 130 ∷ bytes_high_first 2 n
length_in three n = 131 ∷ bytes_high_first 3 n
length_in four n = 132 ∷ bytes_high_first 4 n

-- the bytes are a length or a count in some form that holds the number; it needn't be the shortest (ITU-T X.690, 8.1.3)
abbrev pub IsLength : ℕ → List ℕ → Type 0
IsLength n bytes = (form : Form) × (n < limit_of form) × (bytes ≡ length_in form n)

-- an unsigned number of a fixed width, the high byte first (IEC 62056-5-3, A-XDR)
abbrev pub IsUnsigned : Width → ℕ → List ℕ → Type 0
IsUnsigned w n bytes = (n < 256 ^ byte_len w) × (bytes ≡ to_be_bytes w n)

-- a signed number of a fixed width in two's complement, the high byte first (IEC 62056-5-3, A-XDR)
abbrev pub IsSigned : Width → ℤ → List ℕ → Type 0
IsSigned w z bytes = FitsSigned w z × (bytes ≡ to_be_bytes w (cast_unsigned w z))

-- a string: its length and that many bytes, of any values (that the letters of a visible-string aren't looked at is own profile)
abbrev pub IsString : List ℕ → List ℕ → Type 0
IsString s bytes = AllByRecursion (λ b. b < 256) s × (head : List ℕ) × IsLength (length s) head × (bytes ≡ head ++ s)

abbrev mutual
  -- what stands behind the tag, for each kind (IEC 62056-5-3, type Data)
  pub IsContent : Tree → List ℕ → Type 0
  IsContent null_data bytes = bytes ≡ []
  IsContent (array ts) bytes = (head rest : List ℕ) × IsLength (length (parts ts)) head × AreEncodings ts rest × (bytes ≡ head ++ rest)
  IsContent (structure ts) bytes = (head rest : List ℕ) × IsLength (length (parts ts)) head × AreEncodings ts rest × (bytes ≡ head ++ rest)
  -- each byte other than 00 is true (own profile)
  IsContent (boolean b) bytes = (byte : ℕ) × (byte < 256) × (b ≡ not (byte == 0)) × (bytes ≡ byte ∷ [])
  IsContent (double_long z) bytes = IsSigned w32 z bytes
  IsContent (double_long_unsigned n) bytes = IsUnsigned w32 n bytes
  IsContent (octet_string s) bytes = IsString s bytes
  IsContent (visible_string s) bytes = IsString s bytes
  IsContent (integer z) bytes = IsSigned w8 z bytes
  IsContent (long z) bytes = IsSigned w16 z bytes
  IsContent (unsigned n) bytes = IsUnsigned w8 n bytes
  IsContent (long_unsigned n) bytes = IsUnsigned w16 n bytes
  IsContent (long64 z) bytes = IsSigned w64 z bytes
  IsContent (long64_unsigned n) bytes = IsUnsigned w64 n bytes
  IsContent (enumerated n) bytes = IsUnsigned w8 n bytes

  -- the encodings of the parts of an array or a structure, one after the other (IEC 62056-5-3, A-XDR)
  pub AreEncodings : Trees → List ℕ → Type 0
  AreEncodings no_trees bytes = bytes ≡ []
  AreEncodings (more_trees t ts) bytes = (content rest : List ℕ) × IsContent t content × AreEncodings ts rest × (bytes ≡ (tag_of (kind_of t) ∷ content) ++ rest)

-- the bytes are an encoding of the value: its kind's tag and a content (IEC 62056-5-3, type Data)
abbrev pub IsEncoding : Tree → List ℕ → Type 0
IsEncoding t bytes = (content : List ℕ) × IsContent t content × (bytes ≡ tag_of (kind_of t) ∷ content)

-- the bytes begin with an encoding of a value that is nested at most 16, and rest is behind it (the limit is own profile)
pub record BeginsWith (bytes : List ℕ) (t : Tree) (rest : List ℕ) : Type 0 where
  pub text : List ℕ
  pub is : IsEncoding t text
  pub nested : depth t ≤ 16
  pub front : bytes ≡ text ++ rest

-- no front of the bytes is an encoding of a value that is nested at most 16 (the limit is own profile)
abbrev pub BeginsWithNone : List ℕ → Type 0
BeginsWithNone bytes = (t : Tree) (front rest : List ℕ) → IsEncoding t front → depth t ≤ 16 → bytes ≢ front ++ rest
