-- What an effect of the code stands for.
use Rattle.std.specs.Prelude.{◌≡◌, List, [], ◌∷◌, Some}
use Rattle.cosem_data.specs.View.{tree}
use Rattle.cosem_data.specs.declared.name.LogicalName.{LogicalName}
use Rattle.meter_theory.specs.Plan.{Plan, object_at, seen}
use Rattle.meter_theory.specs.Steps as theory
use Rattle.meter_theory.specs.Steps.{Captures, captures_of}
use Rattle.meter_theory.specs.States.{Fits, MayStand}
use Rattle.object_model.specs.declared.effect.Effect.{Effect}
use Rattle.object_model.specs.declared.effect.Effect.TheVariants as effects

-- what goes into which cell, a profile's capture and its reset: own profile
abbrev pub effect_of : Effect → theory.Effect
effect_of (effects.Put cell value) = theory.Put cell (tree value)
effect_of (effects.Remember monitor value) = theory.Put (seen monitor) (tree value)
effect_of (effects.Capture profile) = theory.Capture profile
effect_of (effects.Clear profile) = theory.Clear profile

-- a profile of the plan has this name: own profile
abbrev pub IsProfile : Plan → LogicalName → Type 0
IsProfile P n = (c : Captures) × (captures_of (object_at P n) ≡ Some c)

-- The value of a put may stand in its cell, which is settable, what a register monitor remembers is of the kind that it
-- watches, and a profile captures: own profile.
abbrev pub MayTake : Plan → Effect → Type 0
MayTake P (effects.Put cell value) = MayStand P cell (tree value)
MayTake P (effects.Remember monitor value) = Fits P (theory.Put (seen monitor) (tree value))
MayTake P (effects.Capture profile) = IsProfile P profile
MayTake P (effects.Clear profile) = Unit {0}

-- the same of each of several effects: own profile
abbrev pub MayTakeAll : Plan → List Effect → Type 0
MayTakeAll P [] = Unit {0}
MayTakeAll P (e ∷ es) = MayTake P e × MayTakeAll P es
