-- Tests and filters of lists that are made of others.
use Rattle.std.specs.Prelude.{◌≡◌, ℕ, ◌+◌, ◌<◌, Bool, true, false, ◌&&◌, ◌||◌, cond, List, [], ◌∷◌, ◌++◌, filter, flat_map, get_or, length, map, take}
use Rattle.std.specs.List.{list_any}
use Rattle.std.proofs.Common.{refl, sym, ap, ap₂, ◌∙◌, append_assoc, arith, inl, inr}
use Rattle.std.proofs.lemmas.List.{append-nil, map-append, map_more, map_push}
use Rattle.std.proofs.lemmas.List.Elements.{filter-append, filter_more}
use Rattle.std.proofs.lemmas.List.Folds.{list_any-append}
use Rattle.meter_theory.specs.Lists.{IsIn}

pub list_any-flat_map : {A B : Type 0} (p : B → Bool) (f : A → List B) (xs : List A) → list_any p (flat_map f xs) ≡ list_any (λ x. list_any p (f x)) xs
list_any-flat_map p f [] = refl
list_any-flat_map p f (x ∷ xs) = list_any-append p (f x) (flat_map f xs) ∙ ap (λ b. list_any p (f x) || b) (list_any-flat_map p f xs)

pub list_any-map : {A B : Type 0} (p : B → Bool) (f : A → B) (xs : List A) → list_any p (map f xs) ≡ list_any (λ x. p (f x)) xs
list_any-map p f [] = refl
list_any-map p f (x ∷ xs) = ap (λ b. p (f x) || b) (list_any-map p f xs)

pub list_any-filter : {A : Type 0} (p q : A → Bool) (xs : List A) → list_any p (filter q xs) ≡ list_any (λ x. q x && p x) xs
list_any-filter p q [] = refl
list_any-filter p q (x ∷ xs) = at (q x) (list_any-filter p q xs)
  where
    at : (b : Bool) → list_any p (filter q xs) ≡ list_any (λ y. q y && p y) xs → list_any p (cond b (x ∷ filter q xs) (filter q xs)) ≡ ((b && p x) || list_any (λ y. q y && p y) xs)
    at true rest = ap (λ b. p x || b) rest
    at false rest = rest

pub list_any-agree : {A : Type 0} (p q : A → Bool) (xs : List A) → ((x : A) → IsIn xs x → p x ≡ q x) → list_any p xs ≡ list_any q xs
list_any-agree p q [] h = refl
list_any-agree p q (x ∷ xs) h = ap₂ (λ a b. a || b) (h x (inl refl)) (list_any-agree p q xs (λ y i. h y (inr i)))

pub list_any-and : {A : Type 0} (b : Bool) (p : A → Bool) (xs : List A) → list_any (λ x. b && p x) xs ≡ (b && list_any p xs)
list_any-and true p [] = refl
list_any-and false p [] = refl
list_any-and true p (x ∷ xs) = ap (λ c. p x || c) (list_any-and true p xs)
list_any-and false p (x ∷ xs) = list_any-and false p xs

pub list_any-none : {A : Type 0} (p : A → Bool) (xs : List A) → ((x : A) → IsIn xs x → p x ≡ false) → list_any p xs ≡ false
list_any-none p [] h = refl
list_any-none p (x ∷ xs) h = ap (λ b. b || list_any p xs) (h x (inl refl)) ∙ list_any-none p xs (λ y i. h y (inr i))

pub map-of-map : {A B C : Type 0} (g : B → C) (f : A → B) (xs : List A) → map g (map f xs) ≡ map (λ x. g (f x)) xs
map-of-map g f [] = refl
map-of-map g f (x ∷ xs) = ap (λ ys. g (f x) ∷ ys) (map-of-map g f xs)

-- one element more of a list that is made of another
pub map-more : {A B : Type 0} (f : A → B) (xs : List A) (i : ℕ) (d : A) (before new : List B) (y : B) → i < length xs → before ≡ map f (take i xs) → y ≡ f (get_or xs i d) → new ≡ before ++ y ∷ [] → new ≡ map f (take (i + 1) xs)
map-more f xs i d before new y less so_far is pushed = pushed ∙ ap₂ (λ ys z. ys ++ z ∷ []) so_far is ∙ sym (map_more f xs i d less)

-- the same behind others, where elements are seen as something else
pub seen-more : {A B C : Type 0} (g : C → B) (f : A → B) (xs : List A) (i : ℕ) (d : A) (start : List B) (before new : List C) (y : C) → i < length xs → map g before ≡ start ++ map f (take i xs) → g y ≡ f (get_or xs i d) → new ≡ before ++ y ∷ [] →
    map g new ≡ start ++ map f (take (i + 1) xs)
seen-more g f xs i d start before new y less so_far is pushed =
    ap (map g) pushed ∙ map_push g before y ∙ ap₂ (λ ys z. ys ++ z ∷ []) so_far is ∙ append_assoc start (map f (take i xs)) (f (get_or xs i d) ∷ []) ∙ ap (λ ys. start ++ ys) (sym (map_more f xs i d less))

-- and of what a filter leaves: an element that fails, and one that passes
pub kept-more : {A B C : Type 0} (g : C → B) (f : A → B) (p : A → Bool) (xs : List A) (i : ℕ) (d : A) (start : List B) (before : List C) → i < length xs → map g before ≡ start ++ map f (filter p (take i xs)) → p (get_or xs i d) ≡ false →
    map g before ≡ start ++ map f (filter p (take (i + 1) xs))
kept-more g f p xs i d start before less so_far fails =
    so_far ∙ ap (λ ys. start ++ map f ys) (sym (filter_more p xs i d less ∙ ap (λ b. filter p (take i xs) ++ cond b (get_or xs i d ∷ []) []) fails ∙ append-nil (filter p (take i xs))))

pub put-more : {A B C : Type 0} (g : C → B) (f : A → B) (p : A → Bool) (xs : List A) (i : ℕ) (d : A) (start : List B) (before new : List C) (y : C) → i < length xs → map g before ≡ start ++ map f (filter p (take i xs)) → p (get_or xs i d) ≡ true → g y ≡ f (get_or xs i d) → new ≡ before ++ y ∷ [] →
    map g new ≡ start ++ map f (filter p (take (i + 1) xs))
put-more g f p xs i d start before new y less so_far passes is pushed =
    ap (map g) pushed ∙ map_push g before y ∙ ap₂ (λ ys z. ys ++ z ∷ []) so_far is
    ∙ append_assoc start (map f (filter p (take i xs))) (f (get_or xs i d) ∷ [])
    ∙ ap (λ ys. start ++ ys) (sym (map-append f (filter p (take i xs)) (get_or xs i d ∷ [])))
    ∙ ap (λ ys. start ++ map f ys) (sym (filter_more p xs i d less ∙ ap (λ b. filter p (take i xs) ++ cond b (get_or xs i d ∷ []) []) passes))

pub filter-map : {A B : Type 0} (p : B → Bool) (f : A → B) (xs : List A) → filter p (map f xs) ≡ map f (filter (λ x. p (f x)) xs)
filter-map p f [] = refl
filter-map p f (x ∷ xs) = at (p (f x)) (filter-map p f xs)
  where
    at : (b : Bool) → filter p (map f xs) ≡ map f (filter (λ y. p (f y)) xs) → cond b (f x ∷ filter p (map f xs)) (filter p (map f xs)) ≡ map f (cond b (x ∷ filter (λ y. p (f y)) xs) (filter (λ y. p (f y)) xs))
    at true rest = ap (λ ys. f x ∷ ys) rest
    at false rest = rest

pub filter-filter : {A : Type 0} (p q : A → Bool) (xs : List A) → filter p (filter q xs) ≡ filter (λ x. q x && p x) xs
filter-filter p q [] = refl
filter-filter p q (x ∷ xs) = at (q x) (filter-filter p q xs)
  where
    within : (b : Bool) → filter p (filter q xs) ≡ filter (λ y. q y && p y) xs → cond b (x ∷ filter p (filter q xs)) (filter p (filter q xs)) ≡ cond b (x ∷ filter (λ y. q y && p y) xs) (filter (λ y. q y && p y) xs)
    within true rest = ap (λ ys. x ∷ ys) rest
    within false rest = rest

    at : (b : Bool) → filter p (filter q xs) ≡ filter (λ y. q y && p y) xs →
        filter p (cond b (x ∷ filter q xs) (filter q xs)) ≡ cond (b && p x) (x ∷ filter (λ y. q y && p y) xs) (filter (λ y. q y && p y) xs)
    at true rest = within (p x) rest
    at false rest = rest

pub filter-agree : {A : Type 0} (p q : A → Bool) (xs : List A) → ((x : A) → IsIn xs x → p x ≡ q x) → filter p xs ≡ filter q xs
filter-agree p q [] h = refl
filter-agree p q (x ∷ xs) h = ap₂ (λ b ys. cond b (x ∷ ys) ys) (h x (inl refl)) (filter-agree p q xs (λ y i. h y (inr i)))

pub filter-flat_map : {A B : Type 0} (p : B → Bool) (f : A → List B) (xs : List A) → filter p (flat_map f xs) ≡ flat_map (λ x. filter p (f x)) xs
filter-flat_map p f [] = refl
filter-flat_map p f (x ∷ xs) = filter-append p (f x) (flat_map f xs) ∙ ap (λ ys. filter p (f x) ++ ys) (filter-flat_map p f xs)

pub flat_map-agree : {A B : Type 0} (f g : A → List B) (xs : List A) → ((x : A) → IsIn xs x → f x ≡ g x) → flat_map f xs ≡ flat_map g xs
flat_map-agree f g [] h = refl
flat_map-agree f g (x ∷ xs) h = ap₂ (λ a b. a ++ b) (h x (inl refl)) (flat_map-agree f g xs (λ y i. h y (inr i)))

pub flat_map-of-map : {A B C : Type 0} (g : B → List C) (f : A → B) (xs : List A) → flat_map g (map f xs) ≡ flat_map (λ x. g (f x)) xs
flat_map-of-map g f [] = refl
flat_map-of-map g f (x ∷ xs) = ap (λ ys. g (f x) ++ ys) (flat_map-of-map g f xs)

-- some element passes exactly where the filter leaves one
pub any-of-filter : {A : Type 0} (p : A → Bool) (xs : List A) → (0 < length (filter p xs) → list_any p xs ≡ true) × (length (filter p xs) ≡ 0 → list_any p xs ≡ false)
any-of-filter p [] = (λ h. absurd (omega arith), λ e. refl)
any-of-filter p (x ∷ xs) = at (p x) (any-of-filter p xs)
  where
    at : (b : Bool) → (0 < length (filter p xs) → list_any p xs ≡ true) × (length (filter p xs) ≡ 0 → list_any p xs ≡ false) →
        (0 < length (cond b (x ∷ filter p xs) (filter p xs)) → (b || list_any p xs) ≡ true) × (length (cond b (x ∷ filter p xs) (filter p xs)) ≡ 0 → (b || list_any p xs) ≡ false)
    at true rest = (λ h. refl, λ e. absurd (omega arith))
    at false rest = rest
