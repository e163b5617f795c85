-- The end of a line.
use Rattle.std.proofs.Common.{◌≡◌, ℕ, List, [], ◌∷◌, Ok, refl}
use Rattle.value_words.proofs.Steps.{ok_is}
use Rattle.step_words.specs.Parts.{ended}

-- the line ended
pub ended_ok : {A : Type 0} (x : A) (text : List ℕ) (y : A) → ended x text ≡ Ok y → (text ≡ []) × (x ≡ y)
ended_ok x [] y e = (refl, ok_is x y e)
ended_ok x (c ∷ text) y e = absurd cc
