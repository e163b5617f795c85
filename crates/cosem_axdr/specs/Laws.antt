-- What follows from the grammar (IEC 62056-5-3, type Data in A-XDR), the canonical form and the order of reading.
use Rattle.std.specs.Prelude.{◌≡◌, ◌≢◌, ◌≤◌, ◌<◌, ◌^◌, ℕ, List, [], ◌∷◌, ◌++◌, length, All, FitsSigned, ◌⊎◌, None, Ok, Err}
use Rattle.std.specs.List.{AllByRecursion}
use Rattle.std.specs.Int.{w8, w16, w32, w64, byte_len}
use Rattle.cosem_data.specs.Tree.{Tree, Trees, depth, array, structure, double_long, double_long_unsigned, octet_string, visible_string, integer, long, unsigned, long_unsigned, long64, long64_unsigned, enumerated, no_trees, more_trees}
use Rattle.cosem_data.specs.Kinds.{tag_of}
use Rattle.cosem_data.specs.declared.kind.Kind.TheVariants.{Array, Structure}
use Rattle.cosem_axdr.specs.declared.fault.ReadFault.{ReadFault}
use Rattle.cosem_axdr.specs.declared.fault.ReadFault.TheVariants.{Short, UnknownTag, TooDeep, Length, Memory}
use Rattle.cosem_axdr.specs.Grammar.{IsEncoding, BeginsWith}
use Rattle.cosem_axdr.specs.Canonical.{canonical, HasLengths}
use Rattle.cosem_axdr.specs.Reading.{kind_of_tag, data_at}

-- no encoding begins another that is longer, and none is that of two values
abbrev pub NoEncodingBeginsAnother : Type 0
NoEncodingBeginsAnother = (t u : Tree) (a b x y : List ℕ) → IsEncoding t a → IsEncoding u b → a ++ x ≡ b ++ y → (t ≡ u) × (a ≡ b)

-- each number is in the range of its kind (IEC 62056-5-3, type Data), and each byte of a string is a byte
abbrev mutual
  pub HasRanges : Tree → Type 0
  HasRanges (array ts) = HaveRanges ts
  HasRanges (structure ts) = HaveRanges ts
  HasRanges (double_long z) = FitsSigned w32 z
  HasRanges (double_long_unsigned n) = n < 256 ^ byte_len w32
  HasRanges (octet_string s) = AllByRecursion (λ b. b < 256) s
  HasRanges (visible_string s) = AllByRecursion (λ b. b < 256) s
  HasRanges (integer z) = FitsSigned w8 z
  HasRanges (long z) = FitsSigned w16 z
  HasRanges (unsigned n) = n < 256 ^ byte_len w8
  HasRanges (long_unsigned n) = n < 256 ^ byte_len w16
  HasRanges (long64 z) = FitsSigned w64 z
  HasRanges (long64_unsigned n) = n < 256 ^ byte_len w64
  HasRanges (enumerated n) = n < 256 ^ byte_len w8
  HasRanges _ = Unit {0}

  -- and so for each of the parts
  pub HaveRanges : Trees → Type 0
  HaveRanges no_trees = Unit {0}
  HaveRanges (more_trees t ts) = HasRanges t × HaveRanges ts

-- the canonical form is an encoding
abbrev pub CanonicalIsEncoding : Type 0
CanonicalIsEncoding = (t : Tree) → HasLengths t → HasRanges t → IsEncoding t (canonical t)

-- what was written of a value that is nested at most 16 is read again, whatever follows
abbrev pub WrittenIsRead : Type 0
WrittenIsRead = (t : Tree) (rest : List ℕ) → HasLengths t → HasRanges t → depth t ≤ 16 → data_at 16 (canonical t ++ rest) ≡ Ok (t, rest)

-- a value whose canonical form is at most 2 ^ 32 - 1 bytes long has lengths and counts below 2 ^ 32
abbrev pub SmallHasLengths : Type 0
SmallHasLengths = (t : Tree) (limit : ℕ) → length (canonical t) ≤ limit → limit < 2 ^ 32 → HasLengths t

-- the byte at which each fault stands (own profile): no kind has it as its tag; the tag of an array or a structure inside sixteen others; no form of a length begins with it
abbrev pub IsBadByte : ReadFault → ℕ → Type 0
IsBadByte UnknownTag byte = kind_of_tag byte ≡ None
IsBadByte TooDeep byte = (byte ≡ tag_of Array) ⊎ (byte ≡ tag_of Structure)
IsBadByte Length byte = (byte ≡ 128) ⊎ (132 < byte)
IsBadByte Short byte = ⊥
IsBadByte Memory byte = ⊥

-- the fault stands at the first bad byte: nothing is wrong before it, and nothing behind it matters (own profile)
pub record StandsAtFirstBadByte (bytes : List ℕ) (fault : ReadFault) : Type 0 where
  pub before : List ℕ
  pub byte : ℕ
  pub behind : List ℕ
  pub is : bytes ≡ before ++ byte ∷ behind
  pub bad : IsBadByte fault byte
  pub nothing_wrong_before : data_at 16 before ≡ Err Short
  pub nothing_behind_matters : (more : List ℕ) → data_at 16 (before ++ byte ∷ more) ≡ Err fault

-- nothing is wrong with the bytes, but some are missing: with more bytes they are a value, and an encoding of it
pub record IsFrontOfValue (bytes : List ℕ) : Type 0 where
  pub more : List ℕ
  pub are_bytes : All (λ b. b < 256) more
  pub value : Tree
  pub read : data_at 16 (bytes ++ more) ≡ Ok (value, [])
  pub begins : All (λ b. b < 256) bytes → BeginsWith (bytes ++ more) value []

-- the first bad byte from the left decides the fault
abbrev pub FirstFaultDecides : Type 0
FirstFaultDecides = (bytes : List ℕ) (fault : ReadFault) → data_at 16 bytes ≡ Err fault → fault ≢ Short → StandsAtFirstBadByte bytes fault

-- and with no bad byte, bytes are missing
abbrev pub ShortIsFront : Type 0
ShortIsFront = (bytes : List ℕ) → data_at 16 bytes ≡ Err Short → IsFrontOfValue bytes

-- what a fault of the reader says of the bytes
abbrev pub IsFirstFault : List ℕ → ReadFault → Type 0
IsFirstFault bytes Short = IsFrontOfValue bytes
IsFirstFault bytes UnknownTag = StandsAtFirstBadByte bytes UnknownTag
IsFirstFault bytes TooDeep = StandsAtFirstBadByte bytes TooDeep
IsFirstFault bytes Length = StandsAtFirstBadByte bytes Length
IsFirstFault bytes Memory = Unit {0}
