-- How lists are dealt out and taken in again.
use Rattle.std.specs.Prelude.{ℕ, suc, zero, ◌-◌, List, [], ◌∷◌, ◌++◌}

-- the elements behind the first `wait`: the next, and then each that stands `step` behind the one before (own profile)
abbrev pub every : {A : Type 0} → (step wait : ℕ) → List A → List A
every step wait [] = []
every step zero (x ∷ xs) = x ∷ every step (step - 1) xs
every step (suc wait) (x ∷ xs) = every step wait xs

-- so many elements, one from each list in turn (own profile)
abbrev pub turns : {A : Type 0} → ℕ → List (List A) → List A
turns zero lists = []
turns (suc count) [] = []
turns (suc count) ([] ∷ lists) = []
turns (suc count) ((x ∷ xs) ∷ lists) = x ∷ turns count (lists ++ xs ∷ [])
