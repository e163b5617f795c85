-- Words on lists that the definitions share.
use Rattle.std.specs.Prelude.{◌≡◌, ◌⊎◌, Bool, false, List, [], ◌∷◌, ℕ, ◌-◌, drop, length, Option, Some, None}

-- x is an element of the list
abbrev pub IsIn : {A : Type 0} → List A → A → Type 0
IsIn [] x = ⊥
IsIn (y ∷ ys) x = (x ≡ y) ⊎ IsIn ys x

-- the last n elements
abbrev pub keep_last : {A : Type 0} → ℕ → List A → List A
keep_last n xs = drop (length xs - n) xs

-- the list that is made from a value, and none from an absent one
abbrev pub for_some : {A B : Type 0} → Option A → (A → List B) → List B
for_some None f = []
for_some (Some x) f = f x

-- each element differs from those behind it
abbrev pub AreDistinct : {A : Type 0} → List A → Type 0
AreDistinct [] = Unit {0}
AreDistinct (x ∷ xs) = (IsIn xs x → ⊥) × AreDistinct xs

-- there is a value, and it passes the test
abbrev pub some_passes : {A : Type 0} → (A → Bool) → Option A → Bool
some_passes test None = false
some_passes test (Some x) = test x
