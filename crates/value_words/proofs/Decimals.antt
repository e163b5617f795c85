-- Numbers in decimal are read from their texts, and from no others.
use Rattle.std.proofs.Common.{◌≡◌, ◌≢◌, ℕ, ℤ, pos, negsuc, zero, suc, ◌+◌, ◌-◌, ◌*◌, ◌/◌, ◌%◌, ◌^◌, ◌<◌, ◌≤◌, Bool, true, false, ◌&&◌, cond, ltb, leb, eqb, List, [], ◌∷◌, ◌++◌, length, get_or, Option, Some, None, Ok, refl, sym, ap, subst, ◌∙◌, append_assoc, arith, inl, inr}
use Rattle.std.specs.Prelude.{option_and_then}
use Rattle.std.specs.Char.{is_ascii_digit}
use Rattle.std.specs.Fmt.{decimal, signed_decimal}
use Rattle.std.specs.List.{list_all}
use Rattle.std.proofs.lemmas.Bool.{cases_lt, ltb-true, eqb-true, eq-eqb, ne_eqb, true≢false}
use Rattle.std.proofs.lemmas.Bool.Decides.{nat_tests}
use Rattle.std.proofs.lemmas.Fmt.{decimal_digit, decimal_step, decimal_by_steps, first_decimal, decimal_nonempty}
use Rattle.std.proofs.lemmas.List.{append-nil}
use Rattle.value_words.specs.Stopping.{found, front, past, behind}
use Rattle.value_words.specs.WordReading.{with_digit, with_digits, number_in, unsigned_at, negative_in, signed_step, signed_at}
use Rattle.value_words.proofs.Steps.{then_some, some_is, chosen, found_ok, mapped, read_again, done}
use Rattle.value_words.proofs.Behind.{behind-takes}
use Rattle.value_words.proofs.Runs.{front-past, front-again, past-again, NoneInFront}

-- ---- what is read stands there

-- one more digit, written behind
decimal_more : (v d : ℕ) → 0 < v → d < 10 → 10 * v + d < 2 ^ 64 → decimal (10 * v + d) ≡ decimal v ++ (48 + d) ∷ []
decimal_more v d up small low =
    let high : (10 * v + d) / 10 ≡ v = omega arith in
    let ones : (10 * v + d) % 10 ≡ d = omega arith in
    decimal_step (10 * v + d) (omega arith) low ∙ ap (λ (x : ℕ). decimal x ++ (48 + (10 * v + d) % 10) ∷ []) high ∙ ap (λ (x : ℕ). decimal v ++ (48 + x) ∷ []) ones

-- a digit that was taken
record Taken (most v c n : ℕ) : Type 0 where
  low : 48 ≤ c
  high : c < 58
  is : n ≡ 10 * v + (c - 48)
  below : n ≤ most

digit_taken : (most v c n : ℕ) → with_digit most v c ≡ Some n → Taken most v c n
digit_taken most v c n e = at (is_ascii_digit c && leb (10 * v + (c - 48)) most) refl e
  where
    at : (b : Bool) → (is_ascii_digit c && leb (10 * v + (c - 48)) most) ≡ b → cond b (Some (10 * v + (c - 48))) None ≡ Some n → Taken most v c n
    at false p h = absurd cc
    at true p h =
        let is : 10 * v + (c - 48) ≡ n = cc in
        let fits : 10 * v + (c - 48) ≤ most = grind (arith, nat_tests) in
        record { low = grind (arith, nat_tests); high = grind (arith, nat_tests); is = sym is; below = omega arith }

digits_taken : (most v n : ℕ) (text : List ℕ) → most < 2 ^ 64 → 0 < v → v ≤ most → with_digits most v text ≡ Some n → decimal v ++ text ≡ decimal n
digits_taken most v n [] few up low e = let is : v ≡ n = cc in append-nil (decimal v) ∙ ap decimal is
digits_taken most v n (c ∷ text) few up low e =
    let b = then_some (λ more. with_digits most more text) (with_digit most v c) n e in
    let t = digit_taken most v c b.0 b.1 in
    let below = t.below in
    let is = t.is in
    let least = t.low in
    let high = t.high in
    let rest = digits_taken most b.0 n text few (omega arith) below b.2 in
    let whole : 48 + (c - 48) ≡ c = omega arith in
    let one : decimal b.0 ≡ decimal v ++ (c ∷ []) =
    ap decimal is ∙ decimal_more v (c - 48) up (omega arith) (omega arith) ∙ ap (λ (x : ℕ). decimal v ++ (x ∷ [])) whole in
    sym (append_assoc (decimal v) (c ∷ []) text) ∙ ap (λ (x : List ℕ). x ++ text) (sym one) ∙ rest

-- the number that is read is written so
pub number_takes : (most n : ℕ) (text : List ℕ) → most < 2 ^ 64 → number_in most text ≡ Some n → text ≡ decimal n
number_takes most n [] few e = absurd cc
number_takes most n (c ∷ text) few e = at (eqb c 48) (ltb 0 (length text)) refl refl e
  where
    first : with_digits most 0 (c ∷ text) ≡ Some n → (d : ℕ) × Taken most 0 c d × (with_digits most d text ≡ Some n)
    first h = let b = then_some (λ more. with_digits most more text) (with_digit most 0 c) n h in (b.0, digit_taken most 0 c b.0 b.1, b.2)

    empty : (t : List ℕ) → ltb 0 (length t) ≡ false → t ≡ []
    empty [] h = refl
    empty (x ∷ t) h = absurd (grind (arith, nat_tests))

    at : (p q : Bool) → eqb c 48 ≡ p → ltb 0 (length text) ≡ q → cond (p && q) None (with_digits most 0 (c ∷ text)) ≡ Some n → (c ∷ text) ≡ decimal n
    at true true i j h = absurd cc
    at true false i j h =
        let f = first h in
        let is : c ≡ 48 = eqb-true c 48 i in
        let none : text ≡ [] = empty text j in
        let value : f.0 ≡ 0 = omega (arith, f.1.is) in
        let end : Some f.0 ≡ Some n = sym (ap (with_digits most f.0) none) ∙ f.2 in
        let same : f.0 ≡ n = cc in
        ap (λ (x : ℕ). x ∷ text) is ∙ ap (λ (t : List ℕ). 48 ∷ t) none ∙ sym (decimal_digit 0 (omega arith)) ∙ ap decimal (sym value ∙ same)
    at false q i j h =
        let f = first h in
        let other : c ≢ 48 = λ same. true≢false (sym (eq-eqb c 48 same) ∙ i) in
        let least = f.1.low in
        let high = f.1.high in
        let is = f.1.is in
        let rest = digits_taken most f.0 n text few (omega arith) f.1.below f.2 in
        let whole : 48 + f.0 ≡ c = omega arith in
        ap (λ (x : ℕ). x ∷ text) (sym whole) ∙ ap (λ (x : List ℕ). x ++ text) (sym (decimal_digit f.0 (omega arith))) ∙ rest

-- digits make no more than the most
digits_low : (most v n : ℕ) (text : List ℕ) → v ≤ most → with_digits most v text ≡ Some n → n ≤ most
digits_low most v n [] low e = let is = some_is v n e in omega arith
digits_low most v n (c ∷ text) low e =
    let b = then_some (λ more. with_digits most more text) (with_digit most v c) n e in
    digits_low most b.0 n text (digit_taken most v c b.0 b.1).below b.2

-- the number that is read is no more than the most
pub number_low : (most n : ℕ) (text : List ℕ) → number_in most text ≡ Some n → n ≤ most
number_low most n [] e = absurd cc
number_low most n (c ∷ text) e =
    elim (chosen (eqb c 48 && ltb 0 (length text)) _ _ (Some n) e) [
      | inl p ↦ let wrong = p.1 in absurd cc
      | inr p ↦ digits_low most 0 n (c ∷ text) (omega arith) p.1
    ]

-- ---- what stands there is read

digit_gives : (most v d : ℕ) → d < 10 → 10 * v + d ≤ most → with_digit most v (48 + d) ≡ Some (10 * v + d)
digit_gives most v d small fits =
    let back : 48 + d - 48 ≡ d = omega arith in
    let digit : is_ascii_digit (48 + d) ≡ true = grind (arith, nat_tests) in
    let low : leb (10 * v + d) most ≡ true = grind (arith, nat_tests) in
    rw (digit, back, low) refl

one_digit_gives : (most n : ℕ) (more : List ℕ) → n < 10 → n ≤ most → with_digits most 0 (decimal n ++ more) ≡ with_digits most n more
one_digit_gives most n more one low =
    let is : 10 * 0 + n ≡ n = omega arith in
    ap (λ (x : List ℕ). with_digits most 0 (x ++ more)) (decimal_digit n one)
    ∙ ap (λ (r : Option ℕ). option_and_then (λ v. with_digits most v more) r) (digit_gives most 0 n one (omega arith))
    ∙ ap (λ v. with_digits most v more) is

-- the digits of a number make it
digits_give : (fuel most n : ℕ) (more : List ℕ) → n ≤ fuel → n ≤ most → most < 2 ^ 64 → with_digits most 0 (decimal n ++ more) ≡ with_digits most n more
digits_give zero most n more enough low few = one_digit_gives most n more (omega arith) low
digits_give (suc fuel) most n more enough low few =
    elim (cases_lt n 10) [
      | inl one ↦ one_digit_gives most n more one low
      | inr many ↦
          let ten : 10 * (n / 10) + n % 10 ≡ n = omega arith in
          ap (λ (x : List ℕ). with_digits most 0 (x ++ more)) (decimal_step n many (omega arith))
          ∙ ap (with_digits most 0) (append_assoc (decimal (n / 10)) ((48 + n % 10) ∷ []) more)
          ∙ digits_give fuel most (n / 10) ((48 + n % 10) ∷ more) (omega arith) (omega arith) few
          ∙ ap (λ (r : Option ℕ). option_and_then (λ v. with_digits most v more) r) (digit_gives most (n / 10) (n % 10) (omega arith) (omega arith))
          ∙ ap (λ v. with_digits most v more) ten
    ]

leads : (c : ℕ) (text : List ℕ) (n : ℕ) → (c ∷ text) ≡ decimal n → n < 2 ^ 64 → c ≡ 48 → 0 < length text → ⊥
leads c text n e fits is_zero some =
    elim (cases_lt 0 n) [
      | inl up ↦
          let first : 48 < get_or (decimal n) 0 0 = first_decimal n up fits in
          let is : get_or (decimal n) 0 0 ≡ c = ap (λ t. get_or t 0 0) (sym e) in
          omega (arith, first, is)
      | inr none ↦
          let is : n ≡ 0 = omega arith in
          let long : length (c ∷ text) ≡ 1 = ap length (e ∙ ap decimal is ∙ decimal_digit 0 (omega arith)) in
          omega (arith, long)
    ]

-- the text of a number gives that number
pub number_gives : (most n : ℕ) (text : List ℕ) → most < 2 ^ 64 → n ≤ most → text ≡ decimal n → number_in most text ≡ Some n
number_gives most n [] few low e =
    let some : 0 < length (decimal n) = decimal_nonempty n (omega arith) in
    let none : length (decimal n) ≡ 0 = ap length (sym e) in
    absurd (omega (arith, some, none))
number_gives most n (c ∷ text) few low e = at (eqb c 48) (ltb 0 (length text)) refl refl
  where
    read : with_digits most 0 (c ∷ text) ≡ Some n
    read = ap (with_digits most 0) (e ∙ sym (append-nil (decimal n))) ∙ digits_give n most n [] (omega arith) low few

    at : (p q : Bool) → eqb c 48 ≡ p → ltb 0 (length text) ≡ q → cond (p && q) None (with_digits most 0 (c ∷ text)) ≡ Some n
    at true true i j = absurd (leads c text n e (omega arith) (eqb-true c 48 i) (ltb-true 0 (length text) j))
    at true false i j = read
    at false q i j = read

-- ---- a number in front of a text

-- each byte of two texts passes, if each of both does
pub all_append : (p : ℕ → Bool) (s more : List ℕ) → list_all p s ≡ true → list_all p more ≡ true → list_all p (s ++ more) ≡ true
all_append p [] more h k = k
all_append p (c ∷ s) more h k = at (p c) h (λ e. all_append p s more e k)
  where
    at : (b : Bool) → (b && list_all p s) ≡ true → (list_all p s ≡ true → list_all p (s ++ more) ≡ true) → (b && list_all p (s ++ more)) ≡ true
    at true e again = again e
    at false e again = absurd cc

one_all : (c : ℕ) → is_ascii_digit c ≡ true → list_all is_ascii_digit (c ∷ []) ≡ true
one_all c e = ap (λ (b : Bool). b && true) e

decimal_digits : (n : ℕ) → n < 2 ^ 64 → list_all is_ascii_digit (decimal n) ≡ true
decimal_digits n low =
    decimal_by_steps (λ m ds. list_all is_ascii_digit ds ≡ true)
    (λ m lt. one_all (48 + m) (grind (arith, nat_tests)))
    (λ m ds many h. all_append is_ascii_digit ds ((48 + m % 10) ∷ []) h (one_all (48 + m % 10) (grind (arith, nat_tests))))
    n low

-- an unsigned number that is read stands there
pub unsigned_takes : {Q : Type 0} (what : Q) (most : ℕ) (text : List ℕ) (n : ℕ) (rest : List ℕ) → most < 2 ^ 64 → unsigned_at what most text ≡ Ok (n, rest) → text ≡ decimal n ++ rest
unfolding unsigned_at
unsigned_takes what most text n rest few e =
    let f = found_ok what text (number_in most (front is_ascii_digit text)) (past is_ascii_digit text) n rest e in
    sym (front-past is_ascii_digit text)
    ∙ ap (λ (s : List ℕ). s ++ past is_ascii_digit text) (number_takes most n (front is_ascii_digit text) few f.0)
    ∙ ap (λ (s : List ℕ). decimal n ++ s) f.1

-- and no more than the most
pub unsigned_low : {Q : Type 0} (what : Q) (most n : ℕ) (text rest : List ℕ) → unsigned_at what most text ≡ Ok (n, rest) → n ≤ most
unfolding unsigned_at
unsigned_low what most n text rest e =
    number_low most n (front is_ascii_digit text) (found_ok what text (number_in most (front is_ascii_digit text)) (past is_ascii_digit text) n rest e).0

-- the digits of a number in front of another byte are read
pub unsigned_again : {Q : Type 0} (what : Q) (most n : ℕ) (rest : List ℕ) → most < 2 ^ 64 → n ≤ most → NoneInFront is_ascii_digit rest → unsigned_at what most (decimal n ++ rest) ≡ Ok (n, rest)
unfolding unsigned_at
unsigned_again what most n rest few low ends =
    let digits = decimal_digits n (omega arith) in
    let text = decimal n ++ rest in
    ap (λ (o : Option ℕ). found what text o (past is_ascii_digit text))
    (number_gives most n (front is_ascii_digit text) few low (front-again is_ascii_digit (decimal n) rest digits ends))
    ∙ ap (λ (s : List ℕ). done {A = ℕ × List ℕ} (n, s)) (past-again is_ascii_digit (decimal n) rest digits ends)

-- ---- signed numbers

-- a number from -half up to half - 1
abbrev pub IsWithin : ℕ → ℤ → Type 0
IsWithin half (pos n) = n < half
IsWithin half (negsuc k) = suc k ≤ half

abbrev minus_one : ℕ → Option ℤ
minus_one n = cond (eqb n 0) None (Some (negsuc (n - 1)))

negative_takes : (half : ℕ) (digits : List ℕ) (z : ℤ) → half ≤ 2 ^ 63 → negative_in half digits ≡ Some z → 45 ∷ digits ≡ signed_decimal z
negative_takes half digits z few e =
    let b = then_some minus_one (number_in half digits) z e in
    let n = b.0 in
    let read = number_takes half n digits (omega arith) b.1 in
    at n (eqb n 0) refl b.2 read
  where
    at : (n : ℕ) (t : Bool) → eqb n 0 ≡ t → cond t None (Some (negsuc (n - 1))) ≡ Some z → digits ≡ decimal n → 45 ∷ digits ≡ signed_decimal z
    at n true is h read = absurd cc
    at n false is h read =
        let more : suc (n - 1) ≡ n = grind (arith, nat_tests) in
        let same : negsuc (n - 1) ≡ z = some_is (negsuc (n - 1)) z h in
        ap (λ (s : List ℕ). 45 ∷ s) (read ∙ ap decimal (sym more)) ∙ ap signed_decimal same

step_takes : {Q : Type 0} (what : Q) (half : ℕ) (text : List ℕ) (o : Option (List ℕ)) (z : ℤ) (rest : List ℕ) → half ≤ 2 ^ 63 → behind (45 ∷ []) text ≡ o → signed_step what half text o ≡ Ok (z, rest) → text ≡ signed_decimal z ++ rest
step_takes what half text (Some left) z rest few is e =
    let f = found_ok what text (negative_in half (front is_ascii_digit left)) (past is_ascii_digit left) z rest e in
    behind-takes (45 ∷ []) text left is
    ∙ ap (λ (s : List ℕ). 45 ∷ s) (sym (front-past is_ascii_digit left))
    ∙ ap (λ (s : List ℕ). s ++ past is_ascii_digit left) (negative_takes half (front is_ascii_digit left) z few f.0)
    ∙ ap (λ (s : List ℕ). signed_decimal z ++ s) f.1
step_takes what half text None z rest few is e =
    let m = mapped pos (unsigned_at what (half - 1) text) z rest e in
    unsigned_takes what (half - 1) text m.0 rest (omega arith) m.1 ∙ ap (λ (y : ℤ). signed_decimal y ++ rest) m.2

-- a signed number that is read stands there
pub signed_takes : {Q : Type 0} (what : Q) (half : ℕ) (text : List ℕ) (z : ℤ) (rest : List ℕ) → half ≤ 2 ^ 63 → signed_at what half text ≡ Ok (z, rest) → text ≡ signed_decimal z ++ rest
unfolding signed_at
signed_takes what half text z rest few e = step_takes what half text (behind (45 ∷ []) text) z rest few refl e

-- the number below zero that is read is no less than the least
negative_low : (half : ℕ) (z : ℤ) (digits : List ℕ) → negative_in half digits ≡ Some z → IsWithin half z
negative_low half z digits e =
    let b = then_some minus_one (number_in half digits) z e in
    let low = number_low half b.0 digits b.1 in
    elim (chosen (eqb b.0 0) None (Some (negsuc (b.0 - 1))) (Some z) b.2) [
      | inl p ↦ let wrong = p.1 in absurd cc
      | inr p ↦
          let some : 0 < b.0 = grind (arith, nat_tests, p.0) in
          subst (IsWithin half) (some_is (negsuc (b.0 - 1)) z p.1) (omega arith)
    ]

-- and lies in its range
pub signed_low : {Q : Type 0} (what : Q) (half : ℕ) (z : ℤ) (text rest : List ℕ) → 0 < half → signed_at what half text ≡ Ok (z, rest) → IsWithin half z
unfolding signed_at
signed_low what half z text rest some e = at (behind (45 ∷ []) text) e
  where
    at : (o : Option (List ℕ)) → signed_step what half text o ≡ Ok (z, rest) → IsWithin half z
    at (Some left) h = negative_low half z (front is_ascii_digit left) (found_ok what text (negative_in half (front is_ascii_digit left)) (past is_ascii_digit left) z rest h).0
    at None h =
        let m = mapped pos (unsigned_at what (half - 1) text) z rest h in
        let low = unsigned_low what (half - 1) m.0 text rest m.1 in
        subst (IsWithin half) m.2 (omega arith)

-- the digits of a number don't begin with a minus sign
no_minus : (s rest : List ℕ) → list_all is_ascii_digit s ≡ true → 0 < length s → behind (45 ∷ []) (s ++ rest) ≡ None
no_minus [] rest h some = absurd (omega arith)
no_minus (c ∷ s) rest h some = at (eqb c 45) refl
  where
    at : (t : Bool) → eqb c 45 ≡ t → cond t (Some (s ++ rest)) None ≡ None
    at false is = refl
    at true is = let same : c ≡ 45 = eqb-true c 45 is in let wrong : (is_ascii_digit 45 && list_all is_ascii_digit s) ≡ true = ap (λ (d : ℕ). is_ascii_digit d && list_all is_ascii_digit s) (sym same) ∙ h in absurd cc

-- a signed number in front of another byte than a digit is read
pub signed_again : {Q : Type 0} (what : Q) (half : ℕ) (z : ℤ) (rest : List ℕ) → half ≤ 2 ^ 63 → IsWithin half z → NoneInFront is_ascii_digit rest → signed_at what half (signed_decimal z ++ rest) ≡ Ok (z, rest)
unfolding signed_at
signed_again what half (pos n) rest few low ends =
    let text = decimal n ++ rest in
    ap (signed_step what half text) (no_minus (decimal n) rest (decimal_digits n (omega arith)) (decimal_nonempty n (omega arith)))
    ∙ read_again pos (unsigned_at what (half - 1) text) n rest (unsigned_again what (half - 1) n rest (omega arith) (omega arith) ends)
signed_again what half (negsuc k) rest few low ends =
    let n = suc k in
    let digits = decimal_digits n (omega arith) in
    let left = decimal n ++ rest in
    let text = 45 ∷ left in
    let other : eqb n 0 ≡ false = ne_eqb n 0 (λ e. omega arith) in
    let less : n - 1 ≡ k = omega arith in
    let value : minus_one n ≡ Some (negsuc k) = rw (other, less) refl in
    ap (λ (o : Option ℕ). found what text (option_and_then minus_one o) (past is_ascii_digit left))
    (number_gives half n (front is_ascii_digit left) (omega arith) low (front-again is_ascii_digit (decimal n) rest digits ends))
    ∙ ap (λ (o : Option ℤ). found what text o (past is_ascii_digit left)) value
    ∙ ap (λ (s : List ℕ). done {A = ℤ × List ℕ} (negsuc k, s)) (past-again is_ascii_digit (decimal n) rest digits ends)
