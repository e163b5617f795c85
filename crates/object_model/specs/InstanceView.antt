-- What stands at a logical name of a plan.
use Rattle.std.specs.Prelude.{refl}
use Rattle.std.specs.Coded.{Coded, code_by, coded×}
use Rattle.cosem_data.specs.declared.name.LogicalName.{LogicalName}
use Rattle.meter_theory.specs.Plan.{Plan}
use Rattle.meter_theory.specs.PlanCode.{plan_code, name_code}

-- a plan and an instance-id, a logical name: IEC 62056-5-3, Cosem-Object-Instance-Id
pub record AtName : Type 0 where
  pub plan : Plan
  pub name : LogicalName

-- both as a pair, as Rattle asks of a type that is seen as a value: own profile
abbrev pub at_name_code : Coded AtName
at_name_code = code_by (Plan × LogicalName) (coded× plan_code name_code) (λ i. (i.plan, i.name)) (λ p. record { plan = p.0; name = p.1 }) (λ _. refl)
