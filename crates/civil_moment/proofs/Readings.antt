-- A moment is read from its text, and from no other.
use Rattle.std.proofs.Common.{◌≡◌, ℕ, ◌+◌, ◌-◌, ◌*◌, ◌/◌, ◌%◌, ◌<◌, ◌≤◌, Bool, true, false, ◌&&◌, cond, eqb, List, [], ◌∷◌, ◌++◌, length, Option, Some, None, refl, sym, ap, ◌∙◌, arith, inl, inr, ◌⊎◌, ℤ, pos, subst}
use Rattle.std.specs.Char.{is_ascii_digit}
use Rattle.std.proofs.lemmas.Bool.{and_parts, eqb-true, ne_eqb}
use Rattle.std.proofs.lemmas.Bool.Decides.{nat_tests}
use Rattle.meter_theory.specs.Times.{Moment, IsMoment}
use Rattle.jiff_core.specs.Calendar.{days_in_month}
use Rattle.civil_moment.specs.Texts.{◌>>=◌, two_digits, four_digits, moment_text, pair_at, marked_at, numbers_at}

digit_bounds : (c : ℕ) → is_ascii_digit c ≡ true → (48 ≤ c) × (c < 58)
digit_bounds c e = (grind (arith, nat_tests), grind (arith, nat_tests))

digit_true : (c : ℕ) → 48 ≤ c → c < 58 → is_ascii_digit c ≡ true
digit_true c low high = grind (arith, nat_tests)

chosen : {A : Type 0} (b : Bool) (x y z : A) → cond b x y ≡ z → ((b ≡ true) × (x ≡ z)) ⊎ ((b ≡ false) × (y ≡ z))
chosen true x y z e = inl (refl, e)
chosen false x y z e = inr (refl, e)

some_is : {A : Type 0} (x y : A) → Some x ≡ Some y → x ≡ y
some_is x y e = cc

bind_some : {A B : Type 0} (o : Option A) (f : A → Option B) (y : B) → (o >>= f) ≡ Some y → (x : A) × (o ≡ Some x) × (f x ≡ Some y)
bind_some (Some x) f y e = (x, refl, e)
bind_some None f y e = absurd cc

-- ---- what is read stands there

record Takes (text : List ℕ) (n : ℕ) (rest : List ℕ) : Type 0 where
  same : text ≡ two_digits n ++ rest
  small : n < 100

pair_takes : (text : List ℕ) (n : ℕ) (rest : List ℕ) → pair_at text ≡ Some (n, rest) → Takes text n rest
pair_takes [] n rest e = absurd cc
pair_takes (a ∷ []) n rest e = absurd cc
pair_takes (a ∷ b ∷ text) n rest e =
    elim (chosen (is_ascii_digit a && is_ascii_digit b) _ _ (Some (n, rest)) e) [
      | inl p ↦
          let is = some_is {A = ℕ × List ℕ} (10 * (a - 48) + (b - 48), text) (n, rest) p.1 in
          let both = and_parts _ _ p.0 in
          let first = digit_bounds a both.0 in
          let second = digit_bounds b both.1 in
          let value : 10 * (a - 48) + (b - 48) ≡ n = ap (λ (x : ℕ × List ℕ). x.0) is in
          let tens : a ≡ 48 + n / 10 = omega arith in
          let ones : b ≡ 48 + n % 10 = omega arith in
          record {
            same = ap (λ (x : ℕ). x ∷ b ∷ text) tens ∙ ap (λ (x : ℕ). (48 + n / 10) ∷ x ∷ text) ones ∙ ap (λ (x : ℕ × List ℕ). (48 + n / 10) ∷ (48 + n % 10) ∷ x.1) is;
            small = omega arith;
          }
      | inr p ↦ let wrong = p.1 in absurd cc
    ]

marked_takes : (mark : ℕ) (text : List ℕ) (n : ℕ) (rest : List ℕ) → marked_at mark text ≡ Some (n, rest) → text ≡ mark ∷ two_digits n ++ rest
marked_takes mark [] n rest e = absurd cc
marked_takes mark (c ∷ text) n rest e =
    elim (chosen (eqb c mark) _ _ (Some (n, rest)) e) [
      | inl p ↦ ap (λ (x : ℕ). x ∷ text) (eqb-true c mark p.0) ∙ ap (λ (x : List ℕ). mark ∷ x) (pair_takes text n rest p.1).same
      | inr p ↦ let wrong = p.1 in absurd cc
    ]

ended : (text : List ℕ) (made t : Moment) → cond (eqb (length text) 0) (Some made) None ≡ Some t → (text ≡ []) × (made ≡ t)
ended [] made t e = (refl, some_is made t e)
ended (c ∷ text) made t e = let wrong = rw (ne_eqb (length (c ∷ text)) 0 (λ z. omega arith)) at e in absurd cc

year_takes : (century year : ℕ) → year < 100 → two_digits century ++ two_digits year ≡ four_digits (100 * century + year)
year_takes century year small =
    let front : century ≡ (100 * century + year) / 100 = omega arith in
    let back : year ≡ (100 * century + year) % 100 = omega arith in
    ap (λ (x : ℕ). two_digits x ++ two_digits year) front ∙ ap (λ (x : ℕ). two_digits ((100 * century + year) / 100) ++ two_digits x) back

-- the text behind the year
abbrev behind : ℕ → ℕ → ℕ → ℕ → ℕ → List ℕ → List ℕ
behind month day hour minute second rest =
    45 ∷ two_digits month ++ 45 ∷ two_digits day ++ 84 ∷ two_digits hour ++ 58 ∷ two_digits minute ++ 58 ∷ two_digits second ++ rest

pub numbers_take : (text : List ℕ) (t : Moment) → numbers_at text ≡ Some t → text ≡ moment_text t
unfolding numbers_at
numbers_take text t e =
    let c = bind_some (pair_at text) _ t e in
    let y = bind_some (pair_at c.0.1) _ t c.2 in
    let m = bind_some (marked_at 45 y.0.1) _ t y.2 in
    let d = bind_some (marked_at 45 m.0.1) _ t m.2 in
    let h = bind_some (marked_at 84 d.0.1) _ t d.2 in
    let i = bind_some (marked_at 58 h.0.1) _ t h.2 in
    let s = bind_some (marked_at 58 i.0.1) _ t i.2 in
    let done = ended s.0.1 _ t s.2 in
    let century = pair_takes text c.0.0 c.0.1 c.1 in
    let year = pair_takes c.0.1 y.0.0 y.0.1 y.1 in
    let tail : y.0.1 ≡ behind m.0.0 d.0.0 h.0.0 i.0.0 s.0.0 [] =
    marked_takes 45 y.0.1 m.0.0 m.0.1 m.1
    ∙ ap (λ (x : List ℕ). 45 ∷ two_digits m.0.0 ++ x) (marked_takes 45 m.0.1 d.0.0 d.0.1 d.1
    ∙ ap (λ (x : List ℕ). 45 ∷ two_digits d.0.0 ++ x) (marked_takes 84 d.0.1 h.0.0 h.0.1 h.1
    ∙ ap (λ (x : List ℕ). 84 ∷ two_digits h.0.0 ++ x) (marked_takes 58 h.0.1 i.0.0 i.0.1 i.1
    ∙ ap (λ (x : List ℕ). 58 ∷ two_digits i.0.0 ++ x) (marked_takes 58 i.0.1 s.0.0 s.0.1 s.1
    ∙ ap (λ (x : List ℕ). 58 ∷ two_digits s.0.0 ++ x) done.0)))) in
    century.same
    ∙ ap (λ (x : List ℕ). two_digits c.0.0 ++ x) (year.same ∙ ap (λ (x : List ℕ). two_digits y.0.0 ++ x) tail)
    ∙ ap (λ (x : List ℕ). x ++ behind m.0.0 d.0.0 h.0.0 i.0.0 s.0.0 []) (year_takes c.0.0 y.0.0 year.small)
    ∙ ap moment_text done.1

-- ---- what stands there is read

pair_again : (n : ℕ) (rest : List ℕ) → n < 100 → pair_at (two_digits n ++ rest) ≡ Some (n, rest)
pair_again n rest small =
    let value : 10 * (48 + n / 10 - 48) + (48 + n % 10 - 48) ≡ n = omega arith in
    rw (digit_true (48 + n / 10) (omega arith) (omega arith), digit_true (48 + n % 10) (omega arith) (omega arith), value) refl

days_small : (y : ℤ) (m : ℕ) → days_in_month y m < 100
days_small y m = grind (arith, nat_tests)

pub month_small : (t : Moment) → IsMoment t → t.month < 100
month_small t is = omega (arith, is.civil.1.1)

pub day_small : (t : Moment) → IsMoment t → t.day < 100
day_small t is = omega (arith, days_small (pos t.year) t.month, is.civil.2.1)

pub numbers_again : (t : Moment) → IsMoment t → numbers_at (moment_text t) ≡ Some t
unfolding numbers_at
numbers_again t is =
    let until = is.until in
    let whole : 100 * (t.year / 100) + t.year % 100 ≡ t.year = omega arith in
    rw (
      pair_again (t.year / 100) (two_digits (t.year % 100) ++ behind t.month t.day t.hour t.minute t.second []) (omega arith),
      pair_again (t.year % 100) (behind t.month t.day t.hour t.minute t.second []) (omega arith),
      pair_again t.month (45 ∷ two_digits t.day ++ 84 ∷ two_digits t.hour ++ 58 ∷ two_digits t.minute ++ 58 ∷ two_digits t.second) (month_small t is),
      pair_again t.day (84 ∷ two_digits t.hour ++ 58 ∷ two_digits t.minute ++ 58 ∷ two_digits t.second) (day_small t is),
      pair_again t.hour (58 ∷ two_digits t.minute ++ 58 ∷ two_digits t.second) (omega (arith, is.hour)),
      pair_again t.minute (58 ∷ two_digits t.second) (omega (arith, is.minute)),
      pair_again t.second [] (omega (arith, is.second)),
      whole,
    ) refl

-- ---- moments

-- a text whose numbers are a moment is that moment's
pub is_found : (text : List ℕ) (made m : Moment) → Some made ≡ numbers_at text → m ≡ made → text ≡ moment_text m
is_found text made m e q = numbers_take text made (sym e) ∙ sym (ap moment_text q)

-- the text of a moment gives that moment's numbers
pub text_gives : (text : List ℕ) (t : Moment) → IsMoment t → text ≡ moment_text t → numbers_at text ≡ Some t
text_gives text t is e = ap numbers_at e ∙ numbers_again t is

pub one_moment : (made m t : Moment) (found : Option Moment) → m ≡ made → Some made ≡ found → found ≡ Some t → m ≡ t
one_moment made m t found q p r = q ∙ some_is made t (p ∙ r)

pub no_numbers : {A : Type 0} (t : Moment) (found : Option Moment) → None ≡ found → found ≡ Some t → A
no_numbers t found p q = absurd cc

pub no_moment : {A : Type 0} (made t : Moment) (found : Option Moment) → (IsMoment made → None ≡ Some made) → Some made ≡ found → found ≡ Some t → IsMoment t → A
no_moment made t found h p q is = let wrong = h (subst IsMoment (sym (some_is made t (p ∙ q))) is) in absurd cc
