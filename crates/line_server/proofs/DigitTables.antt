-- What the tables of hex digits say, entry by entry, and what the sum of two entries says of the digits.
use Rattle.std.proofs.Common.{◌≡◌, ℕ, zero, suc, ◌+◌, ◌*◌, ◌/◌, ◌%◌, ◌<◌, ◌≤◌, ◌==◌, Bool, true, ◌&&◌, inl, inr, slice_index, Option, Some, None, unwrap_or, Ok, Err, refl, ap, arith}
use Rattle.std.proofs.lemmas.Bool.{and_parts, cases_lt, eqb-true}
use Rattle.hex.specs.Hex.{digit_or_error, hex_digit_value, pair_value, upper_digits, ◌>>=◌}
use Rattle.hex.specs.declared.error.FromHexError.{FromHexError}
use Rattle.hex.specs.declared.error.FromHexError.TheVariants.{InvalidHexCharacter}
use Rattle.line_server.specs.declared.digits.TheConstants.{PAIRS, VALUES}

-- a test holds of each number below n
abbrev pub all_below : (ℕ → Bool) → ℕ → Bool
all_below test zero = true
all_below test (suc n) = test n && all_below test n

pub all_below_at : (test : ℕ → Bool) (n k : ℕ) → all_below test n ≡ true → k < n → test k ≡ true
all_below_at test zero k h lt = absurd (omega arith)
all_below_at test (suc n) k h lt =
    let parts = and_parts (test n) (all_below test n) h in
    elim (cases_lt k n) [
      | inl below ↦ all_below_at test n k parts.1 below
      | inr top ↦
          let e : k ≡ n = omega arith in
          rw e parts.0
    ]

-- the entry of a byte is its value as a digit
abbrev has_value : ℕ → Bool
has_value digit = slice_index VALUES digit == unwrap_or (hex_digit_value digit) 256

pub value_at_digit : (digit : ℕ) → digit < 256 → slice_index VALUES digit ≡ unwrap_or (hex_digit_value digit) 256
value_at_digit digit lt = eqb-true _ _ (all_below_at has_value 256 digit refl lt)

-- the entries of a byte are its digits
abbrev has_digits : ℕ → Bool
has_digits byte =
    (slice_index PAIRS (2 * byte) == slice_index upper_digits (byte / 16)) && (slice_index PAIRS (2 * byte + 1) == slice_index upper_digits (byte % 16))

pub digits_at_byte : (byte : ℕ) → byte < 256
    → (slice_index PAIRS (2 * byte) ≡ slice_index upper_digits (byte / 16)) × (slice_index PAIRS (2 * byte + 1) ≡ slice_index upper_digits (byte % 16))
digits_at_byte byte lt =
    let parts = and_parts _ _ (all_below_at has_digits 256 byte refl lt) in
    (eqb-true _ _ parts.0, eqb-true _ _ parts.1)

-- the value of two digits, with what no digit has for one
abbrev pub sum_of : Option ℕ → Option ℕ → ℕ
sum_of high low = 16 * unwrap_or high 256 + unwrap_or low 256

-- a sum that is a byte is that of two digits
read : (a b i : ℕ) (high low : Option ℕ) → sum_of high low < 256
    → (digit_or_error a i high >>= (λ h. digit_or_error b (i + 1) low >>= (λ l. Ok (h * 16 + l)))) ≡ Ok (sum_of high low)
read a b i (Some h) (Some l) lt = ap Ok (omega arith)
read a b i (Some h) None lt = absurd (omega arith)
read a b i None low lt = absurd (omega arith)

pub pair_read : (a b i : ℕ) → sum_of (hex_digit_value a) (hex_digit_value b) < 256
    → pair_value a b i ≡ Ok (sum_of (hex_digit_value a) (hex_digit_value b))
pair_read a b i lt = read a b i (hex_digit_value a) (hex_digit_value b) lt

-- a sum that is no byte is that of something else
refused : (a b i : ℕ) (high low : Option ℕ) → ((v : ℕ) → high ≡ Some v → v < 16) → ((v : ℕ) → low ≡ Some v → v < 16) → 256 ≤ sum_of high low
    → (e : FromHexError) × ((digit_or_error a i high >>= (λ h. digit_or_error b (i + 1) low >>= (λ l. Ok (h * 16 + l)))) ≡ Err e)
refused a b i (Some h) (Some l) high_small low_small ge =
    let first = high_small h refl in
    let second = low_small l refl in
    absurd (omega (arith, first, second))
refused a b i (Some h) None high_small low_small ge = (InvalidHexCharacter b (i + 1), refl)
refused a b i None low high_small low_small ge = (InvalidHexCharacter a i, refl)

value_small : (digit v : ℕ) → hex_digit_value digit ≡ Some v → v < 16
value_small digit v h = grind (arith)

pub pair_refused : (a b i : ℕ) → 256 ≤ sum_of (hex_digit_value a) (hex_digit_value b)
    → (e : FromHexError) × (pair_value a b i ≡ Err e)
pair_refused a b i ge = refused a b i (hex_digit_value a) (hex_digit_value b) (value_small a) (value_small b) ge
