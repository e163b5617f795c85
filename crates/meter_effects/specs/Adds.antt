-- What a function adds to a list of effects, and what a list of effects stands for.
use Rattle.std.specs.Prelude.{◌≡◌, List, ◌++◌, map}
use Rattle.meter_theory.specs.Plan.{Plan}
use Rattle.meter_theory.specs.Steps as theory
use Rattle.object_model.specs.EffectView.{effect_of, MayTakeAll}
use Rattle.object_model.specs.declared.effect.Effect.{Effect}

-- The effects stand behind those of before, and may be taken if these may: own profile.
pub record Adds (P : Plan) (added : List theory.Effect) (before after : List Effect) : Type 0 where
  pub effects : map effect_of after ≡ map effect_of before ++ added
  pub fits : MayTakeAll P before → MayTakeAll P after

-- The list stands for the effects, and each of them may be taken: own profile.
pub record StandsFor (P : Plan) (meant : List theory.Effect) (list : List Effect) : Type 0 where
  pub effects : map effect_of list ≡ meant
  pub fits : MayTakeAll P list
