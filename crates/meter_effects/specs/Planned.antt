-- What an effect of the plan stands for, and what effects of a sound plan may do.
use Rattle.std.specs.Prelude.{◌≡◌, List, [], ◌∷◌}
use Rattle.cosem_data.specs.View.{tree}
use Rattle.cosem_data.specs.declared.cell.CellRef.{CellRef}
use Rattle.cosem_data.specs.declared.name.LogicalName.{LogicalName}
use Rattle.meter_theory.specs.Lists.{IsIn}
use Rattle.meter_theory.specs.Plan.{Plan}
use Rattle.meter_theory.specs.States.{MayStand}
use Rattle.meter_theory.specs.Steps as theory
use Rattle.object_model.specs.EffectView.{IsProfile}
use Rattle.object_model.specs.declared.effect.Effect.{Effect}
use Rattle.meter_effects.specs.Adds.{Adds}
use Rattle.meter_effects.specs.declared.walk.Planned.{Planned}
use Rattle.meter_effects.specs.declared.walk.Planned.TheVariants as planned

-- what goes into which cell, a profile's capture and its reset: own profile
abbrev pub planned_of : Planned → theory.Effect
planned_of (planned.Put cell value) = theory.Put cell (tree value.now)
planned_of (planned.Capture profile) = theory.Capture profile
planned_of (planned.Clear profile) = theory.Clear profile

-- the object that an effect changes: own profile
abbrev pub named_by : theory.Effect → LogicalName
named_by (theory.Put x v) = x.name
named_by (theory.Capture n) = n
named_by (theory.Clear n) = n

-- these are cells of the object with this name: own profile
abbrev pub AreOf : LogicalName → List CellRef → Type 0
AreOf n xs = (x : CellRef) → IsIn xs x → x.name ≡ n

-- The value of a put may stand in its cell, and a profile captures: own profile.
abbrev pub MayBePlanned : Plan → theory.Effect → Type 0
MayBePlanned P (theory.Put x v) = MayStand P x v
MayBePlanned P (theory.Capture n) = IsProfile P n
MayBePlanned P (theory.Clear n) = Unit {0}

-- the same of each of several effects: own profile
abbrev pub MayAllBePlanned : Plan → List theory.Effect → Type 0
MayAllBePlanned P effects = (e : theory.Effect) → IsIn effects e → MayBePlanned P e

-- Behind the effects stands one more, of which the plan's own may be taken: own profile.
abbrev pub IsCopied : List Effect → theory.Effect → List Effect → Type 0
IsCopied before e after = (P : Plan) → MayBePlanned P e → Adds P (e ∷ []) before after
