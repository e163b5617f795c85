-- The decimal numbers of a moment's text, filled up with zeros.
use Rattle.std.proofs.Common.{◌≡◌, ℕ, ◌+◌, ◌-◌, ◌^◌, ◌/◌, ◌%◌, ◌<◌, ◌≤◌, false, List, [], ◌∷◌, ◌++◌, ap, ◌∙◌, arith, ⊎_elim, refl}
use Rattle.std.specs.Fmt.{decimal, padded_integral, format_spec, char_count}
use Rattle.std.proofs.lemmas.Bool.{cases_lt}
use Rattle.std.proofs.lemmas.Fmt.{decimal_digit, decimal_step}
use Rattle.civil_moment.specs.Texts.{two_digits, four_digits}

decimal_two : (n : ℕ) → 10 ≤ n → n < 100 → decimal n ≡ two_digits n
decimal_two n low high = decimal_step n low (omega arith) ∙ ap (λ (x : List ℕ). x ++ ((48 + n % 10) ∷ [])) (decimal_digit (n / 10) (omega arith))

decimal_four : (n : ℕ) → 1000 ≤ n → n ≤ 9999 → decimal n ≡ four_digits n
decimal_four n low high =
    let hundreds : n / 10 / 10 ≡ n / 100 = omega arith in
    let tens : n / 10 % 10 ≡ n % 100 / 10 = omega arith in
    let ones : n % 10 ≡ n % 100 % 10 = omega arith in
    let front : decimal (n / 10) ≡ two_digits (n / 100) ++ ((48 + n % 100 / 10) ∷ []) =
    decimal_step (n / 10) (omega arith) (omega arith)
    ∙ ap (λ (x : List ℕ). x ++ ((48 + n / 10 % 10) ∷ [])) (decimal_two (n / 10 / 10) (omega arith) (omega arith))
    ∙ ap (λ (x : ℕ). two_digits x ++ ((48 + n / 10 % 10) ∷ [])) hundreds
    ∙ ap (λ (x : ℕ). two_digits (n / 100) ++ ((48 + x) ∷ [])) tens in
    decimal_step n (omega arith) (omega arith)
    ∙ ap (λ (x : List ℕ). x ++ ((48 + n % 10) ∷ [])) front
    ∙ ap (λ (x : ℕ). two_digits (n / 100) ++ ((48 + n % 100 / 10) ∷ (48 + x) ∷ [])) ones

-- what `{:02}` writes
pub two_padded : (n : ℕ) → n < 100 → padded_integral (format_spec 32 0 4 2 (2 ^ 64 - 1)) false [] (decimal n) ≡ two_digits n
unfolding padded_integral char_count
two_padded n small = ⊎_elim
    (λ (one : n < 10). let high : n / 10 ≡ 0 = omega arith in let low : n % 10 ≡ n = omega arith in rw (decimal_digit n one, high, low) refl)
    (λ (two : 10 ≤ n). rw (decimal_two n two small) refl)
    (cases_lt n 10)

-- what `{:04}` writes of a year
pub four_padded : (n : ℕ) → 1000 ≤ n → n ≤ 9999 → padded_integral (format_spec 32 0 4 4 (2 ^ 64 - 1)) false [] (decimal n) ≡ four_digits n
unfolding padded_integral char_count
four_padded n low high = rw (decimal_four n low high) refl
