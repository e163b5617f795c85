-- Parts of what is judged, where nothing was found.
use Rattle.std.proofs.Common.{◌≡◌, ◌⊎◌, ℕ, ◌+◌, Bool, true, false, not, List, [], ◌∷◌, ◌++◌, map, length, refl, sym, ap, subst, ◌∙◌, inl, inr}
use Rattle.std.specs.List.{list_all}
use Rattle.std.proofs.lemmas.Bool.{and_from, not-false}
use Rattle.std.proofs.lemmas.List.{append_assoc, append-nil}
use Rattle.meter_theory.specs.Lists.{IsIn, AreDistinct}
use Rattle.meter_theory.proofs.Lists.{in_append_cases, in_map, from_map}
use Rattle.config_text.specs.declared.cause.Cause.{Cause}
use Rattle.config_text.specs.Fault.{Fault, fault_where, first_found}
use Rattle.config_text.specs.Parts.{Text}
use Rattle.config_rules.specs.Walks.{Judge, each_from, each_after, each_new, element_place}

-- neither has the first part faults, nor have the others
pub both_none : (xs ys : List Fault) → xs ++ ys ≡ [] → (xs ≡ []) × (ys ≡ [])
both_none [] ys h = (refl, h)
both_none (x ∷ xs) ys h = cc

-- no pass before the first that has faults, and so none at all
pub none_found : (faults : List Fault) (passes : List (List Fault)) → first_found (faults ∷ passes) ≡ [] → (faults ≡ []) × (first_found passes ≡ [])
none_found [] passes h = (refl, h)
none_found (fault ∷ faults) passes h = cc

-- neither what was looked for first, nor what is looked for where this isn't found
pub neither_found : (xs ys : List Fault) → first_found (xs ∷ ys ∷ []) ≡ [] → (xs ≡ []) × (ys ≡ [])
neither_found xs ys h =
    let first = none_found xs (ys ∷ []) h in
    (first.0, (none_found ys [] first.1).0)

pub not_faulty : (cause : Cause) (place : Text) (b : Bool) → fault_where cause place b ≡ [] → b ≡ false
not_faulty cause place true h = cc
not_faulty cause place false h = refl

-- the test whose failure is the fault
pub holds : (cause : Cause) (place : Text) (b : Bool) → fault_where cause place (not b) ≡ [] → b ≡ true
holds cause place b h = not-false b (not_faulty cause place (not b) h)

-- each element was judged at some place, and found right
pub each_ok : {A : Type 0} (judge : Judge A) (name : Text) (i : ℕ) (xs : List A) → each_from judge name i xs ≡ [] → (x : A) → IsIn xs x → (at : Text) × (judge at x ≡ [])
unfolding each_from
each_ok judge name i [] h x none = absurd none
each_ok judge name i (y ∷ ys) h x there =
    let r = both_none (judge (element_place name i) y) (each_from judge name (i + 1) ys) h in
    elim there [
      | inl e ↦ (element_place name i, subst (λ z. judge (element_place name i) z ≡ []) (sym e) r.0)
      | inr j ↦ each_ok judge name (i + 1) ys r.1 x j
    ]

-- each element passed the test whose failure is the fault
pub each_holds : {A : Type 0} (cause : Cause) (test : A → Bool) (name : Text) (i : ℕ) (xs : List A) → each_from (λ at x. fault_where cause at (not (test x))) name i xs ≡ [] →
    list_all test xs ≡ true
unfolding each_from
each_holds cause test name i [] h = refl
each_holds cause test name i (x ∷ xs) h =
    let r = both_none (fault_where cause (element_place name i) (not (test x))) (each_from (λ at y. fault_where cause at (not (test y))) name (i + 1) xs) h in
    and_from (test x) (list_all test xs) (holds cause (element_place name i) (test x) r.0) (each_holds cause test name (i + 1) xs r.1)

-- an element beside those before it has a key of its own, where the judge asks for it
abbrev pub AsksNewKey : {A K : Type 0} → (A → K) → (List A → Judge A) → Type 0
AsksNewKey {A} key judge = (earlier : List A) (at : Text) (x : A) → judge earlier at x ≡ [] → (y : A) → IsIn earlier y → key y ≡ key x → ⊥

-- one more with a key of its own
one_more : {A K : Type 0} (key : A → K) (earlier : List A) (x : A) → AreDistinct (map key earlier) → ((y : A) → IsIn earlier y → key y ≡ key x → ⊥) →
    AreDistinct (map key (earlier ++ x ∷ []))
one_more {A = A} key [] x distinct other = (λ none. none, tt)
one_more {A = A} key (z ∷ earlier) x distinct other =
    (λ i. let y = from_map key (earlier ++ x ∷ []) (key z) i in at y.0 y.2 (in_append_cases earlier (x ∷ []) y.0 y.1), one_more key earlier x distinct.1 (λ y i. other y (inr i)))
  where
    at : (y : A) → key z ≡ key y → (IsIn earlier y ⊎ IsIn (x ∷ []) y) → ⊥
    at y e (inl i) = distinct.0 (subst (IsIn (map key earlier)) (sym e) (in_map key earlier y i))
    at y e (inr (inl is)) = other z (inl refl) (e ∙ ap key is)
    at y e (inr (inr none)) = none

after_distinct : {A K : Type 0} (key : A → K) (judge : List A → Judge A) → AsksNewKey key judge → (name : Text) (earlier xs : List A) → AreDistinct (map key earlier) →
    each_after judge name earlier xs ≡ [] → AreDistinct (map key (earlier ++ xs))
unfolding each_after
after_distinct key judge asks name earlier [] distinct h = subst (λ ys. AreDistinct (map key ys)) (sym (append-nil earlier)) distinct
after_distinct key judge asks name earlier (x ∷ xs) distinct h =
    let r = both_none (judge earlier (element_place name (length earlier)) x) (each_after judge name (earlier ++ x ∷ []) xs) h in
    subst (λ ys. AreDistinct (map key ys)) (append_assoc earlier (x ∷ []) xs)
    (after_distinct key judge asks name (earlier ++ x ∷ []) xs (one_more key earlier x distinct (asks earlier (element_place name (length earlier)) x r.0)) r.1)

-- elements that were each judged against those before them have keys of their own
pub each_new_distinct : {A K : Type 0} (key : A → K) (judge : List A → Judge A) → AsksNewKey key judge → (name : Text) (xs : List A) → each_new judge name xs ≡ [] →
    AreDistinct (map key xs)
each_new_distinct key judge asks name xs h = after_distinct key judge asks name [] xs tt h

after_ok : {A : Type 0} (judge : List A → Judge A) (name : Text) (earlier xs : List A) → each_after judge name earlier xs ≡ [] →
    (x : A) → IsIn xs x → (before : List A) × (at : Text) × (judge before at x ≡ [])
unfolding each_after
after_ok judge name earlier [] h x none = absurd none
after_ok judge name earlier (y ∷ ys) h x there =
    let r = both_none (judge earlier (element_place name (length earlier)) y) (each_after judge name (earlier ++ y ∷ []) ys) h in
    elim there [
      | inl e ↦ (earlier, element_place name (length earlier), subst (λ z. judge earlier (element_place name (length earlier)) z ≡ []) (sym e) r.0)
      | inr j ↦ after_ok judge name (earlier ++ y ∷ []) ys r.1 x j
    ]

-- each element was judged beside some before it
pub each_new_in : {A : Type 0} (judge : List A → Judge A) (name : Text) (xs : List A) → each_new judge name xs ≡ [] →
    (x : A) → IsIn xs x → (before : List A) × (at : Text) × (judge before at x ≡ [])
each_new_in judge name xs h = after_ok judge name [] xs h
