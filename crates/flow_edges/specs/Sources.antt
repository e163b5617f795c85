-- The objects that make edges.
use Rattle.std.specs.Prelude.{◌≡◌, List}
use Rattle.cosem_data.specs.declared.cell.CellRef.{CellRef}
use Rattle.cosem_data.specs.declared.name.LogicalName.{LogicalName}
use Rattle.meter_theory.specs.Lists.{IsIn}
use Rattle.meter_theory.specs.Plan.{Plan, Object, Part, cells}

-- an object of the plan with this name has this part: own profile
abbrev pub HasPart : Plan → LogicalName → Part → Type 0
HasPart P n part = (o : Object) × IsIn P.objects o × (o.name ≡ n) × (o.part ≡ part)

-- each of these is a cell of the plan: own profile
abbrev pub AreOfPlan : Plan → List CellRef → Type 0
AreOfPlan P xs = (x : CellRef) → IsIn xs x → IsIn (cells P) x
