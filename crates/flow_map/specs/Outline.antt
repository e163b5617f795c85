-- What is told of a plan.
use Rattle.std.specs.Prelude.{◌≡◌, List, refl}
use Rattle.std.specs.Coded.{Coded, code_by, coded×}
use Rattle.cosem_data.specs.declared.name.LogicalName.{LogicalName}
use Rattle.meter_theory.specs.Plan.{Client, Object, Plan}
use Rattle.meter_theory.specs.PlanCode.{name_code, plan_code}
use Rattle.meter_theory.specs.Sound.{IsSound}

-- the clients and the objects are those of the plan, a sound one
pub record AreOutlined (P : Plan) (clients : List Client) (objects : List Object) : Type 0 where
  pub sound : IsSound P
  pub clients_are : clients ≡ P.clients
  pub objects_are : objects ≡ P.objects

-- a plan and the logical name at which rights are asked
pub record AtName : Type 0 where
  pub plan : Plan
  pub name : LogicalName

-- both as a pair, as Rattle asks of a type that is seen as a value: own profile
abbrev pub at_name_code : Coded AtName
at_name_code = code_by (Plan × LogicalName) (coded× plan_code name_code) (λ i. (i.plan, i.name)) (λ p. record { plan = p.0; name = p.1 }) (λ _. refl)
