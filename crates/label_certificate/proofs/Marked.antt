-- Marks tell which numbers wait.
use Rattle.std.specs.Prelude.{◌≡◌, ◌≢◌, ◌<◌, ◌≤◌, ◌+◌, ◌==◌, ◌||◌, ◌⊎◌, ℕ, zero, suc, Bool, true, false, cond, List, [], ◌∷◌, ◌++◌, length, map, get_or, set, replicate}
use Rattle.std.specs.List.{range_with_len}
use Rattle.std.proofs.Common.{refl, sym, ap, subst, ◌∙◌, arith, inl, inr}
use Rattle.std.proofs.lemmas.Bool.{eqb-true, eq-eqb, ne_eqb}
use Rattle.std.proofs.lemmas.List.{length-append, length-set, get_or-set_same, get_or-set_other, get_or-replicate, length-replicate}
use Rattle.std.proofs.lemmas.List.FromFn.{map-range_with_len_more}
use Rattle.std.proofs.lemmas.List.Folds.{list_any-append}
use Rattle.meter_theory.specs.Lists.{IsIn, AreDistinct}
use Rattle.meter_theory.proofs.Lists.{any_in, in_any, in_append_cases, in_append_left, in_append_right, in_range}
use Rattle.label_certificate.specs.Waiting.{AreMarked, Numbers, is_waiting, with_number}
use Rattle.label_certificate.proofs.Cases.{same_or_not}
use Rattle.label_certificate.proofs.Sets.{not_both}

-- what is found waits
waits : (numbers : List ℕ) (k : ℕ) → is_waiting numbers k ≡ true → IsIn numbers k
waits numbers k h =
    let found = any_in (λ j. j == k) numbers h in
    subst (IsIn numbers) (eqb-true found.0 k found.2) found.1

-- and what waits is found
is_found : (numbers : List ℕ) (k : ℕ) → IsIn numbers k → is_waiting numbers k ≡ true
is_found numbers k i = in_any (λ j. j == k) numbers k i (eq-eqb k k refl)

is_new : (numbers : List ℕ) (k : ℕ) → (IsIn numbers k → ⊥) → is_waiting numbers k ≡ false
is_new numbers k none = at (is_waiting numbers k) refl
  where
    at : (b : Bool) → is_waiting numbers k ≡ b → b ≡ false
    at false e = refl
    at true e = absurd (none (waits numbers k e))

or-first : (a b : Bool) → b ≡ false → (a || (b || false)) ≡ a
or-first true false h = refl
or-first false false h = refl
or-first _ true h = cc

or-last : (a b : Bool) → b ≡ true → (a || (b || false)) ≡ true
or-last true true h = refl
or-last false true h = refl
or-last _ false h = cc

behind-same : (numbers : List ℕ) (k : ℕ) → is_waiting (numbers ++ k ∷ []) k ≡ true
behind-same numbers k = is_found (numbers ++ k ∷ []) k (in_append_right numbers (k ∷ []) k (inl refl))

behind-other : (numbers : List ℕ) (j k : ℕ) → j ≢ k → is_waiting (numbers ++ k ∷ []) j ≡ is_waiting numbers j
behind-other numbers j k other =
    list_any-append (λ i. i == j) numbers (k ∷ [])
    ∙ or-first (is_waiting numbers j) (k == j) (ne_eqb k j (λ e. other (sym e)))

distinct-more : (numbers : List ℕ) (k : ℕ) → AreDistinct numbers → (IsIn numbers k → ⊥) → AreDistinct (numbers ++ k ∷ [])
distinct-more [] k h none = (λ i. i, tt)
distinct-more (j ∷ numbers) k h none = (new, distinct-more numbers k h.1 (λ i. none (inr i)))
  where
    new : IsIn (numbers ++ k ∷ []) j → ⊥
    new i = elim (in_append_cases numbers (k ∷ []) j i) [
      | inl before ↦ h.0 before
      | inr here ↦ elim here [ inl e ↦ none (inl (sym e)) | inr there ↦ there ]
    ]

-- one more number waits
pub marked-more : (numbers : List ℕ) (marks : List Bool) (k : ℕ) → AreMarked numbers marks → k < length marks → get_or marks k false ≡ false → AreMarked (numbers ++ k ∷ []) (set marks k true)
marked-more numbers marks k m less unmarked = record {
  within = λ j i. subst (λ n. j < n) (sym (length-set marks k true)) (low j i);
  marked = λ j h. at j (subst (λ n. j < n) (length-set marks k true) h) (same_or_not j k);
  apart = distinct-more numbers k m.apart new;
}
  where
    new : IsIn numbers k → ⊥
    new i = not_both (is_waiting numbers k) (is_found numbers k i) (sym (m.marked k less) ∙ unmarked)

    low : (j : ℕ) → IsIn (numbers ++ k ∷ []) j → j < length marks
    low j i = elim (in_append_cases numbers (k ∷ []) j i) [
      | inl before ↦ m.within j before
      | inr here ↦ elim here [ inl e ↦ subst (λ z. z < length marks) (sym e) less | inr there ↦ absurd there ]
    ]

    at : (j : ℕ) → j < length marks → (j ≡ k) ⊎ (j ≢ k) → get_or (set marks k true) j false ≡ is_waiting (numbers ++ k ∷ []) j
    at j h (inl same) =
        ap (λ z. get_or (set marks k true) z false) same
        ∙ (get_or-set_same marks k true false less ∙ sym (ap (is_waiting (numbers ++ k ∷ [])) same ∙ behind-same numbers k))
    at j h (inr other) = get_or-set_other marks k j true false other ∙ (m.marked j h ∙ sym (behind-other numbers j k other))

-- what waits is below the bound
pub first-below : (numbers : List ℕ) (marks : List Bool) (k : ℕ) → AreMarked (k ∷ numbers) marks → k < length marks
first-below numbers marks k m = m.within k (inl refl)

first-same : (numbers : List ℕ) (j k : ℕ) → j ≢ k → is_waiting (k ∷ numbers) j ≡ is_waiting numbers j
first-same numbers j k other = ap (λ b. b || is_waiting numbers j) (ne_eqb k j (λ e. other (sym e)))

-- the first number no longer waits
pub marked-less : (numbers : List ℕ) (marks : List Bool) (k : ℕ) → AreMarked (k ∷ numbers) marks → AreMarked numbers (set marks k false)
marked-less numbers marks k m = record {
  within = λ j i. subst (λ n. j < n) (sym (length-set marks k false)) (m.within j (inr i));
  marked = λ j h. at j (subst (λ n. j < n) (length-set marks k false) h) (same_or_not j k);
  apart = m.apart.1;
}
  where
    at : (j : ℕ) → j < length marks → (j ≡ k) ⊎ (j ≢ k) → get_or (set marks k false) j false ≡ is_waiting numbers j
    at j h (inl same) =
        ap (λ z. get_or (set marks k false) z false) same
        ∙ (get_or-set_same marks k false false (subst (λ z. z < length marks) same h) ∙ sym (ap (is_waiting numbers) same ∙ is_new numbers k m.apart.0))
    at j h (inr other) = get_or-set_other marks k j false false other ∙ (m.marked j h ∙ first-same numbers j k other)

from_range : (a n x : ℕ) → IsIn (range_with_len a n) x → (a ≤ x) × (x < a + n)
from_range a zero x i = absurd i
from_range a (suc n) x (inl e) = (omega (arith, e), omega (arith, e))
from_range a (suc n) x (inr i) = let r = from_range (a + 1) n x i in (omega (arith, r.0), omega (arith, r.1))

distinct-range : (a n : ℕ) → AreDistinct (range_with_len a n)
distinct-range a zero = tt
distinct-range a (suc n) = (λ i. let r = from_range (a + 1) n a i in absurd (omega (arith, r.0)), distinct-range (a + 1) n)

-- what was taken
pub taken : (w : Numbers) (numbers rest : List ℕ) (marks : List Bool) (k : ℕ) → record { bound = length marks; waiting = numbers } ≡ w → numbers ≡ k ∷ rest → AreMarked numbers marks →
    (k < length (set marks k false)) × (w ≡ record { bound = length (set marks k false); waiting = k ∷ rest })
taken w numbers rest marks k is e m =
    let same = sym (length-set marks k false) in (
      subst (λ n. k < n) same (first-below rest marks k (subst (λ ks. AreMarked ks marks) e m)),
      sym is ∙ (λ i. record { bound = same i; waiting = e i }),
    )

pub range-more : (n : ℕ) → range_with_len 0 n ++ n ∷ [] ≡ range_with_len 0 (n + 1)
range-more n = sym (same (range_with_len 0 (n + 1)) ∙ (map-range_with_len_more (λ k. k) 0 n n (omega arith) ∙ ap (λ ks. ks ++ n ∷ []) (sym (same (range_with_len 0 n)))))
  where
    same : (ks : List ℕ) → ks ≡ map (λ k. k) ks
    same [] = refl
    same (k ∷ ks) = ap (λ js. k ∷ js) (same ks)

-- all numbers wait
pub marked-all : (n : ℕ) (marks : List Bool) → marks ≡ replicate n true → AreMarked (range_with_len 0 n) marks
marked-all n marks all = record {
  within = λ k i. let r = from_range 0 n k i in low k r.1;
  marked = λ k h. let low = subst (λ m. k < m) long h in
      ap (λ ms. get_or ms k false) all ∙ (get_or-replicate n k true false low ∙ sym (is_found (range_with_len 0 n) k (in_range 0 n k (omega arith) (omega (arith, low)))));
  apart = distinct-range 0 n;
}
  where
    long : length marks ≡ n
    long = ap length all ∙ length-replicate n true

    low : (k : ℕ) → k < 0 + n → k < length marks
    low k h = omega (arith, h, long)

-- whoever waited still does
pub with_number-keeps : (numbers : List ℕ) (k j : ℕ) → IsIn numbers j → IsIn (with_number numbers k) j
with_number-keeps numbers k j i = at (is_waiting numbers k)
  where
    at : (b : Bool) → IsIn (cond b numbers (numbers ++ k ∷ [])) j
    at true = i
    at false = in_append_left numbers (k ∷ []) j i

-- and so does the number that was added
pub with_number-has : (numbers : List ℕ) (k : ℕ) → IsIn (with_number numbers k) k
with_number-has numbers k = at (is_waiting numbers k) refl
  where
    at : (b : Bool) → is_waiting numbers k ≡ b → IsIn (cond b numbers (numbers ++ k ∷ [])) k
    at true e = waits numbers k e
    at false e = in_append_right numbers (k ∷ []) k (inl refl)

-- one more waits at most
pub with_number-length : (numbers : List ℕ) (k : ℕ) → length (with_number numbers k) ≤ length numbers + 1
with_number-length numbers k = at (is_waiting numbers k)
  where
    one : length (numbers ++ k ∷ []) ≡ length numbers + 1
    one = length-append numbers (k ∷ [])

    at : (b : Bool) → length (cond b numbers (numbers ++ k ∷ [])) ≤ length numbers + 1
    at true = omega arith
    at false = omega (arith, one)
