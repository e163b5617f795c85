-- The words of a value: its kind, named as in the common data types of IEC 62056-6-2, and what it holds. Texts are lists of bytes.
use Rattle.std.specs.Prelude.{ℕ, ◌==◌, not, ◌&&◌, nat_le, Bool, List, [], ◌∷◌, ◌++◌, codes, if◌then◌else◌}
use Rattle.std.specs.Fmt.{decimal, signed_decimal}
use Rattle.hex.specs.Hex.{encode_upper}
use Rattle.cosem_data.specs.Tree.{Tree, Trees, null_data, array, structure, boolean, double_long, double_long_unsigned, octet_string, visible_string, integer, long, unsigned, long_unsigned, long64, long64_unsigned, enumerated, no_trees, more_trees}
use Rattle.cosem_data.specs.Kinds.{kind_of}
use Rattle.cosem_data.specs.declared.kind.Kind.{Kind}
use Rattle.cosem_data.specs.declared.kind.Kind.TheVariants.{NullData, Array, Structure, Boolean, DoubleLong, DoubleLongUnsigned, OctetString, VisibleString, Integer, Long, Unsigned, LongUnsigned, Long64, Long64Unsigned, Enumerated}

-- the word of a kind, with the space behind it where more follows (own profile; the names are those of IEC 62056-6-2)
abbrev pub word_of : Kind → List ℕ
word_of NullData = codes "null-data"
word_of Array = codes "array "
word_of Structure = codes "structure "
word_of Boolean = codes "boolean "
word_of DoubleLong = codes "double-long "
word_of DoubleLongUnsigned = codes "double-long-unsigned "
word_of OctetString = codes "octet-string "
word_of VisibleString = codes "visible-string "
word_of Integer = codes "integer "
word_of Long = codes "long "
word_of Unsigned = codes "unsigned "
word_of LongUnsigned = codes "long-unsigned "
word_of Long64 = codes "long64 "
word_of Long64Unsigned = codes "long64-unsigned "
word_of Enumerated = codes "enum "

-- true or false (own profile)
abbrev pub truth_words : Bool → List ℕ
truth_words b = if b then codes "true" else codes "false"

-- the bytes in upper-case hex digits, two a byte, and `-` for no bytes (own profile)
abbrev pub octet_words : List ℕ → List ℕ
octet_words [] = codes "-"
octet_words (b ∷ s) = encode_upper (b ∷ s)

-- a byte stands for itself between quotes: 32 to 126, but `"` and `\` (own profile)
abbrev pub is_plain : ℕ → Bool
is_plain b = nat_le 32 b && nat_le b 126 && not (b == 34) && not (b == 92)

-- a byte between quotes: itself, or `\xHH` (own profile)
abbrev pub letter_words : ℕ → List ℕ
letter_words b = if is_plain b then b ∷ [] else 92 ∷ 120 ∷ encode_upper (b ∷ [])

-- the bytes between quotes and the closing quote (own profile)
abbrev pub letters_words : List ℕ → List ℕ
letters_words [] = 34 ∷ []
letters_words (b ∷ s) = letter_words b ++ letters_words s

abbrev mutual
  -- what stands behind the word of the kind (own profile)
  pub content_words : Tree → List ℕ
  content_words null_data = []
  content_words (array ts) = list_words ts
  content_words (structure ts) = list_words ts
  content_words (boolean b) = truth_words b
  content_words (double_long z) = signed_decimal z
  content_words (double_long_unsigned n) = decimal n
  content_words (octet_string s) = octet_words s
  content_words (visible_string s) = 34 ∷ letters_words s
  content_words (integer z) = signed_decimal z
  content_words (long z) = signed_decimal z
  content_words (unsigned n) = decimal n
  content_words (long_unsigned n) = decimal n
  content_words (long64 z) = signed_decimal z
  content_words (long64_unsigned n) = decimal n
  content_words (enumerated n) = decimal n

  -- the parts of an array or a structure in braces, with `, ` between them (own profile)
  pub list_words : Trees → List ℕ
  list_words no_trees = codes "{ }"
  list_words (more_trees t ts) = codes "{ " ++ ((word_of (kind_of t) ++ content_words t) ++ more_words ts)

  -- what stands behind a part: the other parts and the closing brace (own profile)
  pub more_words : Trees → List ℕ
  more_words no_trees = codes " }"
  more_words (more_trees t ts) = codes ", " ++ ((word_of (kind_of t) ++ content_words t) ++ more_words ts)

-- the words of a value: its kind and what it holds (own profile)
abbrev pub value_words : Tree → List ℕ
value_words t = word_of (kind_of t) ++ content_words t
