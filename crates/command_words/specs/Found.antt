-- What is found of one argument in the words of a command. All of it is own profile.
use Rattle.std.specs.Prelude.{Bool, List, [], ℕ, ℤ, Option, Some, None, nat_lt, option_and_then, unwrap_or}
use Rattle.std.specs.Prelude.{if◌then◌else◌}
use Rattle.std.specs.Str.Parse.{digits_value, signed_digits_value, without_leading_plus}
use Rattle.clap.specs.ValueTests.{is_signed_in, is_unsigned_in}
use Rattle.clap.specs.Words.{Row, Text, count_of, first_of, one_of}

-- the first text of an argument (own profile)
abbrev pub text : Text → List Row → Text
text id rows = unwrap_or (first_of id rows) []

-- whether an option without a value stands there, once or more (own profile)
abbrev pub has_flag : Text → List Row → Bool
has_flag id rows = nat_lt 0 (count_of id rows)

-- go on with what was found, if anything was
infixl 10 ◌>>=◌
abbrev pub ◌>>=◌ : {A B : Type 0} → Option A → (A → Option B) → Option B
found >>= f = option_and_then f found

-- the number of a text of decimal digits, a plus before them or not, where it is from `least` to `most` (own profile)
abbrev pub number_in : ℕ → ℕ → Text → Option ℕ
number_in least most text = if is_unsigned_in least most text then Some (digits_value 10 (without_leading_plus text)) else None

-- the same of a text that may have a minus before its digits (own profile)
abbrev pub integer_in : ℤ → ℤ → Text → Option ℤ
integer_in least most text = if is_signed_in least most text then Some (signed_digits_value 10 text) else None

-- how many, at least 1: a number of 64 bits (own profile)
abbrev pub count_in : Text → List Row → Option ℕ
count_in id rows = one_of id rows >>= number_in 1 18446744073709551615

-- a number of 32 bits (own profile)
abbrev pub number_of : Text → List Row → Option ℕ
number_of id rows = one_of id rows >>= number_in 0 4294967295

-- each of these numbers, where the words have it (own profile)
abbrev pub count : Text → List Row → ℕ
count id rows = unwrap_or (count_in id rows) 1

abbrev pub number : Text → List Row → ℕ
number id rows = unwrap_or (number_of id rows) 0
