-- Where a test first passes.
use Rattle.std.proofs.Common.{◌≡◌, ◌<◌, ℕ, zero, suc, inl, inr, [], ◌∷◌, Bool, true, false, cond, Option, Some, None, List, length, get_or, find, refl, sym, ap, subst, ◌∙◌, arith}
use Rattle.std.specs.Prelude.{slice_get, ltb}
use Rattle.std.specs.List.{position_from, position_or_len}
use Rattle.std.proofs.lemmas.Bool.{ltb-true, ltb-false, cond_below, cond_above}
use Rattle.std.proofs.lemmas.Iterator.Adapters.{position_from-zero}
use Rattle.std.proofs.lemmas.List.Folds.{find_at}
use Rattle.std.proofs.lemmas.List.Sums.{passes_at_first, position_or_len_is}
use Rattle.std.proofs.lemmas.Option.{cond_some, slice_get_past}
use Rattle.meter_theory.specs.Lists.{IsIn}

-- the first place where a test passes, and what is found there
pub record IsFirst {A : Type 0} (test : A → Bool) (xs : List A) (k : ℕ) : Type 0 where
  pub within : k < length xs
  pub passes : (d : A) → test (get_or xs k d) ≡ true
  pub found : find test xs ≡ slice_get xs k

pub first : {A : Type 0} (test : A → Bool) (xs : List A) (k : ℕ) → position_from test 0 xs ≡ Some k → IsFirst test xs k
first test xs k e =
    let at : (ltb (position_or_len test xs) (length xs) ≡ true) × (position_or_len test xs ≡ k) =
    cond_some (ltb (position_or_len test xs) (length xs)) (position_or_len test xs) k (position_from-zero test xs ∙ e) in
    let within = ltb-true (position_or_len test xs) (length xs) at.0 in
    subst (IsFirst test xs) at.1 (record { within = within; passes = λ d. passes_at_first test xs d within; found = find_at test xs })

pub first-none : {A : Type 0} (test : A → Bool) (xs : List A) → position_from test 0 xs ≡ None → find test xs ≡ None
first-none test xs e = at (ltb (position_or_len test xs) (length xs)) refl (position_from-zero test xs ∙ e)
  where
    at : (b : Bool) → ltb (position_or_len test xs) (length xs) ≡ b → cond b (Some (position_or_len test xs)) None ≡ None → find test xs ≡ None
    at true less h = cc
    at false more h = find_at test xs ∙ slice_get_past xs (position_or_len test xs) (ltb-false (position_or_len test xs) (length xs) more)

-- what is found has a place
pub placed : {A : Type 0} (test : A → Bool) (xs : List A) (x : A) → find test xs ≡ Some x → (k : ℕ) × (position_from test 0 xs ≡ Some k)
placed test xs x h = at (position_from test 0 xs) refl
  where
    at : (p : Option ℕ) → position_from test 0 xs ≡ p → (k : ℕ) × (position_from test 0 xs ≡ Some k)
    at (Some k) is = (k, is)
    at None is = let none = first-none test xs is in cc

-- a place before which no test passes is the first, or there is none
pub is-first : {A : Type 0} (test : A → Bool) (xs : List A) (k : ℕ) (d : A) → k < length xs → ((j : ℕ) → j < k → test (get_or xs j d) ≡ false) → test (get_or xs k d) ≡ true →
    Some k ≡ position_from test 0 xs
is-first test xs k d within before here =
    cond_below k (length xs) (Some k) None within
    ∙ ap (λ n. cond (ltb n (length xs)) (Some n) None) (sym (position_or_len_is test xs k d (omega arith) before (λ _. here)))
    ∙ position_from-zero test xs

pub is-nowhere : {A : Type 0} (test : A → Bool) (xs : List A) (d : A) → ((j : ℕ) → j < length xs → test (get_or xs j d) ≡ false) → None ≡ position_from test 0 xs
is-nowhere test xs d none =
    cond_above (length xs) (length xs) (Some (length xs)) None None (omega arith) refl
    ∙ ap (λ n. cond (ltb n (length xs)) (Some n) None) (sym (position_or_len_is test xs (length xs) d (omega arith) none (λ h. absurd (omega arith))))
    ∙ position_from-zero test xs

-- an element at a place is of the list

pub in-at : {A : Type 0} (xs : List A) (k : ℕ) (d : A) → k < length xs → IsIn xs (get_or xs k d)
in-at [] k d h = absurd (omega arith)
in-at (x ∷ xs) zero d h = inl refl
in-at (x ∷ xs) (suc k) d h = inr (in-at xs k d (omega arith))

pub item-in : {A : Type 0} (xs : List A) (k : ℕ) (x : A) → k < length xs → x ≡ get_or xs k x → IsIn xs x
item-in xs k x h is = subst (IsIn xs) (sym is) (in-at xs k x h)
