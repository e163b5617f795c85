-- Lemmas on membership.
use Rattle.std.proofs.Common.{◌≡◌, ◌⊎◌, ◌+◌, ◌≤◌, ◌<◌, ℕ, zero, suc, Bool, true, false, cond, List, [], ◌∷◌, ◌++◌, map, flat_map, filter, find, Some, None, refl, sym, ap, subst, ◌∙◌, inl, inr, arith}
use Rattle.std.specs.List.{list_any, range_with_len}
use Rattle.std.proofs.lemmas.Bool.{or_left, or_right, or_parts, or_cases}
use Rattle.meter_theory.specs.Lists.{IsIn, AreDistinct}

pub in_append_left : {A : Type 0} (xs ys : List A) (x : A) → IsIn xs x → IsIn (xs ++ ys) x
in_append_left [] ys x h = absurd h
in_append_left (y ∷ xs) ys x h = elim h [ inl e ↦ inl e | inr i ↦ inr (in_append_left xs ys x i) ]

pub in_append_right : {A : Type 0} (xs ys : List A) (x : A) → IsIn ys x → IsIn (xs ++ ys) x
in_append_right [] ys x h = h
in_append_right (y ∷ xs) ys x h = inr (in_append_right xs ys x h)

pub in_append_cases : {A : Type 0} (xs ys : List A) (x : A) → IsIn (xs ++ ys) x → IsIn xs x ⊎ IsIn ys x
in_append_cases [] ys x h = inr h
in_append_cases (y ∷ xs) ys x h =
    elim h [
      | inl e ↦ inl (inl e)
      | inr i ↦ elim (in_append_cases xs ys x i) [ inl j ↦ inl (inr j) | inr j ↦ inr j ]
    ]

pub in_flat_map : {A B : Type 0} (f : A → List B) (xs : List A) (x : A) (y : B) → IsIn xs x → IsIn (f x) y → IsIn (flat_map f xs) y
in_flat_map f [] x y h k = absurd h
in_flat_map f (z ∷ xs) x y h k =
    elim h [
      | inl e ↦ in_append_left (f z) (flat_map f xs) y (subst (λ w. IsIn (f w) y) e k)
      | inr i ↦ in_append_right (f z) (flat_map f xs) y (in_flat_map f xs x y i k)
    ]

pub from_flat_map : {A B : Type 0} (f : A → List B) (xs : List A) (y : B) → IsIn (flat_map f xs) y → (x : A) × IsIn xs x × IsIn (f x) y
from_flat_map f [] y h = absurd h
from_flat_map f (z ∷ xs) y h =
    elim (in_append_cases (f z) (flat_map f xs) y h) [
      | inl i ↦ (z, inl refl, i)
      | inr i ↦ let r = from_flat_map f xs y i in (r.0, inr r.1, r.2)
    ]

pub any_in : {A : Type 0} (test : A → Bool) (xs : List A) → list_any test xs ≡ true → (x : A) × IsIn xs x × (test x ≡ true)
any_in test [] h = absurd (true_false h)
  where
    true_false : false ≡ true → ⊥
    true_false e = cc
any_in test (x ∷ xs) h =
    elim (or_cases _ _ h) [
      | inl e ↦ (x, inl refl, e)
      | inr e ↦ let r = any_in test xs e in (r.0, inr r.1, r.2)
    ]

pub none_in : {A : Type 0} (test : A → Bool) (xs : List A) (x : A) → list_any test xs ≡ false → IsIn xs x → test x ≡ false
none_in test [] x h i = absurd i
none_in test (y ∷ xs) x h i =
    let parts = or_parts _ _ h in
    elim i [
      | inl e ↦ subst (λ z. test z ≡ false) (sym e) parts.0
      | inr j ↦ none_in test xs x parts.1 j
    ]

-- what a search finds is there, and passes
pub found : {A : Type 0} (test : A → Bool) (xs : List A) (x : A) → find test xs ≡ Some x → IsIn xs x × (test x ≡ true)
found test [] x h = cc
found test (y ∷ xs) x h =
    elim (test y) as (λ b. test y ≡ b → cond b (Some y) (find test xs) ≡ Some x → IsIn (y ∷ xs) x × (test x ≡ true)) [
      | true ↦ λ p e. let same : y ≡ x = cc in (inl (sym same), subst (λ z. test z ≡ true) same p)
      | false ↦ λ p e. let r = found test xs x e in (inr r.0, r.1)
    ] refl h

pub in_map : {A B : Type 0} (f : A → B) (xs : List A) (x : A) → IsIn xs x → IsIn (map f xs) (f x)
in_map f [] x h = absurd h
in_map f (y ∷ xs) x h = elim h [ inl e ↦ inl (ap f e) | inr i ↦ inr (in_map f xs x i) ]

pub from_map : {A B : Type 0} (f : A → B) (xs : List A) (y : B) → IsIn (map f xs) y → (x : A) × IsIn xs x × (y ≡ f x)
from_map f [] y h = absurd h
from_map f (x ∷ xs) y h =
    elim h [
      | inl e ↦ (x, inl refl, e)
      | inr i ↦ let r = from_map f xs y i in (r.0, inr r.1, r.2)
    ]

pub in_any : {A : Type 0} (test : A → Bool) (xs : List A) (x : A) → IsIn xs x → test x ≡ true → list_any test xs ≡ true
in_any test [] x i h = absurd i
in_any test (y ∷ xs) x (inl e) h = or_left (test y) (list_any test xs) (subst (λ z. test z ≡ true) e h)
in_any test (y ∷ xs) x (inr i) h = or_right (test y) (list_any test xs) (in_any test xs x i h)

pub in_filter : {A : Type 0} (test : A → Bool) (xs : List A) (x : A) → IsIn xs x → test x ≡ true → IsIn (filter test xs) x
in_filter test [] x i h = absurd i
in_filter test (y ∷ xs) x i h =
    elim (test y) as (λ b. test y ≡ b → IsIn (cond b (y ∷ filter test xs) (filter test xs)) x) [
      | true ↦ λ p. elim i [ inl e ↦ inl e | inr j ↦ inr (in_filter test xs x j h) ]
      | false ↦ λ p. elim i [ inl e ↦ absurd (wrong e p) | inr j ↦ in_filter test xs x j h ]
    ] refl
  where
    wrong : x ≡ y → test y ≡ false → ⊥
    wrong e p = let q : test y ≡ true = subst (λ z. test z ≡ true) e h in cc

pub from_filter : {A : Type 0} (test : A → Bool) (xs : List A) (x : A) → IsIn (filter test xs) x → IsIn xs x × (test x ≡ true)
from_filter test [] x i = absurd i
from_filter test (y ∷ xs) x i =
    elim (test y) as (λ b. test y ≡ b → IsIn (cond b (y ∷ filter test xs) (filter test xs)) x → IsIn (y ∷ xs) x × (test x ≡ true)) [
      | true ↦ λ p j. elim j [
        | inl e ↦ (inl e, subst (λ z. test z ≡ true) (sym e) p)
        | inr m ↦ let r = from_filter test xs x m in (inr r.0, r.1)
      ]
      | false ↦ λ p j. let r = from_filter test xs x j in (inr r.0, r.1)
    ] refl i

-- the numbers of a range
pub in_range : (a n c : ℕ) → a ≤ c → c < a + n → IsIn (range_with_len a n) c
in_range a zero c h k = absurd (omega arith)
in_range a (suc n) c h k =
    elim (same_or_more a c h) [
      | inl e ↦ inl e
      | inr m ↦ inr (in_range (a + 1) n c m (omega arith))
    ]
  where
    same_or_more : (x y : ℕ) → x ≤ y → (y ≡ x) ⊎ (x + 1 ≤ y)
    same_or_more x y p = grind arith

-- what passes is found
pub none_found : {A : Type 0} (test : A → Bool) (xs : List A) (x : A) → find test xs ≡ None → IsIn xs x → test x ≡ true → ⊥
none_found test [] x h i passes = absurd i
none_found test (y ∷ xs) x h i passes = at (λ e j. none_found test xs x e j passes) (test y) refl h i
  where
    later : test y ≡ false → IsIn (y ∷ xs) x → IsIn xs x
    later p (inl e) = let q : test y ≡ true = subst (λ z. test z ≡ true) e passes in absurd (both q p)
      where
        both : test y ≡ true → test y ≡ false → ⊥
        both a b = cc
    later p (inr j) = j

    at : (find test xs ≡ None → IsIn xs x → ⊥) → (b : Bool) → test y ≡ b → cond b (Some y) (find test xs) ≡ None → IsIn (y ∷ xs) x → ⊥
    at rest true p e j = absurd (some_none e)
      where
        some_none : Some y ≡ None → ⊥
        some_none e = cc
    at rest false p e j = rest e (later p j)

-- Elements with keys of their own

-- where keys differ, elements of one key are one
pub one_of_key : {A K : Type 0} (key : A → K) (xs : List A) → AreDistinct (map key xs) → (x y : A) → IsIn xs x → IsIn xs y → key x ≡ key y → x ≡ y
one_of_key key [] d x y i j e = absurd i
one_of_key key (z ∷ xs) d x y (inl a) (inl b) e = a ∙ sym b
one_of_key key (z ∷ xs) d x y (inl a) (inr b) e = absurd (d.0 (subst (IsIn (map key xs)) (sym e ∙ ap key a) (in_map key xs y b)))
one_of_key key (z ∷ xs) d x y (inr a) (inl b) e = absurd (d.0 (subst (IsIn (map key xs)) (e ∙ ap key b) (in_map key xs x a)))
one_of_key key (z ∷ xs) d x y (inr a) (inr b) e = one_of_key key xs d.1 x y a b e
