-- What a reader sees that was told after a step.
use Rattle.std.proofs.Common.{◌≡◌, List, [], ◌∷◌, ◌++◌, Bool, true, false, sym, ◌∙◌, append_assoc}
use Rattle.std.specs.Prelude.{cond}
use Rattle.meter_theory.specs.Steps.{Step}

-- the last of the published steps is the one that was put behind the pending ones
pub ends_with : (published pending : List Step) (step : Step) (b : Bool) (seen : List Step) → seen ≡ published ++ cond b (pending ++ step ∷ []) pending → b ≡ true → (l : List Step) × (seen ≡ l ++ step ∷ [])
ends_with published pending step true seen is changing = (published ++ pending, is ∙ sym (append_assoc published pending (step ∷ [])))
ends_with published pending step false seen is changing = absurd (cc changing)
