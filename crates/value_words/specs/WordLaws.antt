-- What follows from the grammar of the words of values.
use Rattle.std.specs.Prelude.{◌≡◌, ◌≤◌, ◌<◌, ◌^◌, ℕ, false, List, [], ◌∷◌, ◌++◌, FitsSigned, Ok}
use Rattle.std.specs.List.{AllByRecursion}
use Rattle.std.specs.Int.{w8, w16, w32, w64}
use Rattle.cosem_data.specs.Tree.{Tree, Trees, depth, array, structure, double_long, double_long_unsigned, octet_string, visible_string, integer, long, unsigned, long_unsigned, long64, long64_unsigned, enumerated, no_trees, more_trees}
use Rattle.value_words.specs.Words.{value_words}
use Rattle.value_words.specs.WordReading.{is_digit, value_at}

-- each number is in the range of its kind (IEC 62056-6-2, common data types), and each byte of a string is a byte
abbrev mutual
  pub HasRanges : Tree → Type 0
  HasRanges (array ts) = HaveRanges ts
  HasRanges (structure ts) = HaveRanges ts
  HasRanges (double_long z) = FitsSigned w32 z
  HasRanges (double_long_unsigned n) = n < 2 ^ 32
  HasRanges (octet_string s) = AllByRecursion (λ b. b < 256) s
  HasRanges (visible_string s) = AllByRecursion (λ b. b < 256) s
  HasRanges (integer z) = FitsSigned w8 z
  HasRanges (long z) = FitsSigned w16 z
  HasRanges (unsigned n) = n < 2 ^ 8
  HasRanges (long_unsigned n) = n < 2 ^ 16
  HasRanges (long64 z) = FitsSigned w64 z
  HasRanges (long64_unsigned n) = n < 2 ^ 64
  HasRanges (enumerated n) = n < 2 ^ 8
  HasRanges _ = Unit {0}

  -- and so for each of the parts (own profile)
  pub HaveRanges : Trees → Type 0
  HaveRanges no_trees = Unit {0}
  HaveRanges (more_trees t ts) = HasRanges t × HaveRanges ts

-- no digit, also no upper-case hex digit, stands in front: what does would continue a number or bytes (own profile)
abbrev pub EndsHere : List ℕ → Type 0
EndsHere [] = Unit {0}
EndsHere (c ∷ rest) = is_digit c ≡ false

-- the words of a value that is nested at most 16 are read as that value, where nothing that follows continues them (own profile)
abbrev pub WrittenIsRead : Type 0
WrittenIsRead = (t : Tree) (rest : List ℕ) → HasRanges t → depth t ≤ 16 → EndsHere rest → value_at 16 (value_words t ++ rest) ≡ Ok (t, rest)

-- what is read as a value are the words of that value, so that each value has one form (own profile)
abbrev pub ReadIsWritten : Type 0
ReadIsWritten = (text : List ℕ) (t : Tree) (rest : List ℕ) → value_at 16 text ≡ Ok (t, rest) → text ≡ value_words t ++ rest
