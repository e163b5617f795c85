-- Numbers that wait to be taken.
use Rattle.std.specs.Prelude.{◌≡◌, ℕ, ◌<◌, ◌==◌, Bool, false, cond, List, [], ◌∷◌, ◌++◌, length, get_or, Option, Some, None}
use Rattle.std.specs.List.{list_any}
use Rattle.meter_theory.specs.Lists.{IsIn, AreDistinct}

-- numbers below a bound: own profile
pub record Numbers : Type 0 where
  pub bound : ℕ
  pub waiting : List ℕ

-- whether the number is one of these: own profile
abbrev pub is_waiting : List ℕ → ℕ → Bool
is_waiting numbers k = list_any (λ j. j == k) numbers

-- the number goes behind the others, unless it is one of them: own profile
abbrev pub with_number : List ℕ → ℕ → List ℕ
with_number numbers k = cond (is_waiting numbers k) numbers (numbers ++ k ∷ [])

-- the first number was taken, or there was none: own profile
abbrev pub IsTaken : Numbers → Numbers → Option ℕ → Type 0
IsTaken old new None = old.waiting ≡ []
IsTaken old new (Some k) = (k < new.bound) × (old ≡ record { bound = new.bound; waiting = k ∷ new.waiting })

-- a mark for each number that there can be, which tells whether it waits; none waits twice: own profile
pub record AreMarked (numbers : List ℕ) (marks : List Bool) : Type 0 where
  pub within : (k : ℕ) → IsIn numbers k → k < length marks
  pub marked : (k : ℕ) → k < length marks → get_or marks k false ≡ is_waiting numbers k
  pub apart : AreDistinct numbers
