-- The objects of a plan and the rights of its clients on them, as a report shows them: no start value, no script and no password is
-- in them.
use Rattle.std.specs.Prelude.{ℕ, Bool, List, map}
use Rattle.cosem_data.specs.declared.name.LogicalName.{LogicalName}
use Rattle.meter_theory.specs.Plan.{Object, Plan, interface_of}
use Rattle.meter_theory.specs.Rights.{in_view}
use Rattle.meter_theory.specs.declared.refs.Interface.{Interface}
use Rattle.meter_theory.specs.Rights.{is_granted}
use Rattle.meter_theory.specs.declared.flow.Access.{Access}

-- an object: its logical name and its interface class
pub record Head : Type 0 where
  pub name : LogicalName
  pub interface : Interface

abbrev pub head_of : Object → Head
head_of o = record { name = o.name; interface = interface_of o.part }

abbrev pub heads_of : Plan → List Head
heads_of P = map head_of P.objects

-- whether a client sees an object, and may get or set its attribute or call its method with an index
pub record Rights : Type 0 where
  pub views : ℕ → LogicalName → Bool
  pub allows : ℕ → Access → LogicalName → ℕ → Bool

-- by some right of the plan
abbrev pub rights_of : Plan → Rights
rights_of P = record { views = in_view P; allows = is_granted P }
