-- Class 15, Association LN, version 0 (IEC 62056-6-2), as a client sees its current association: no cell; every attribute is
-- fixed by the plan and the client, and no method is offered (own profile).
use Rattle.std.specs.Prelude.{◌≡◌, ◌==◌, ◌||◌, not, ℕ, nat_le, List, Option, Result, Ok, Some, None, Err, Bool, false, ◌&&◌, if◌then◌else◌, refl}
use Rattle.std.specs.Coded.{Coded, code_by, coded_ℕ, coded×}
use Rattle.cosem_data.specs.Tree.{Tree}
use Rattle.cosem_data.specs.Cells.{cell}
use Rattle.meter_theory.specs.Plan.{Plan, association, association_name}
use Rattle.meter_theory.specs.PlanCode.{plan_code}
use Rattle.meter_theory.specs.Fixed.{fixed}
use Rattle.cosem_class.specs.declared.class.Op.{Op}
use Rattle.cosem_class.specs.declared.class.Op.TheVariants.{Write, Invoke, Remember}
use Rattle.cosem_class.specs.declared.class.ClassFault.{ClassFault}
use Rattle.cosem_class.specs.declared.class.ClassFault.TheVariants.{NoIndex}
use Rattle.cosem_class.specs.Objects.{Cells}
use Rattle.cosem_class.specs.Judged.{write_fault}

-- a plan as the client at this place, counted from 0, sees it: own profile
pub record ClientView : Type 0 where
  pub plan : Plan
  pub client : ℕ

-- a view as a pair, as Rattle asks of a type that is seen as a value: own profile
abbrev pub client_view_code : Coded ClientView
client_view_code = code_by (Plan × ℕ) (coded× plan_code coded_ℕ) (λ v. (v.plan, v.client)) (λ p. record { plan = p.0; client = p.1 }) (λ _. refl)

-- the attributes 1 to 8: IEC 62056-6-2, Association LN, version 0
abbrev pub is_association_attribute : ℕ → Bool
is_association_attribute index = nat_le 1 index && nat_le index association.attributes

-- user information, at 5, and secret, at 7, have no value: own profile
abbrev pub has_value : ℕ → Bool
has_value index = is_association_attribute index && not (index == 5 || index == 7)

-- the logical name at 1 and the attributes of the client's current association: IEC 62056-6-2, Association LN
abbrev pub association_reading : ClientView → ℕ → Option Tree → Result Tree ClassFault
association_reading view index held =
    if has_value index then Ok (fixed view.plan view.client (cell association.class_id association_name index)) else Err NoIndex

-- no attribute is settable, and no method is offered: own profile
abbrev pub association_refusal : ClientView → Op → Tree → Option ClassFault
association_refusal view (Write index) value = write_fault false (is_association_attribute index) None
association_refusal view (Invoke method) argument = Some NoIndex
association_refusal view Remember argument = Some NoIndex

-- nothing changes: own profile
abbrev pub association_touched : Op → ℕ → Bool
association_touched op i = false

-- nothing changes: own profile
abbrev pub association_new_value : ClientView → Op → Tree → List Tree → Cells → ℕ → Option Tree
association_new_value view op argument row cells i = cells i

-- there is no cell: own profile
abbrev pub AssociationMeetsRule : ClientView → ℕ → Option Tree → Type 0
AssociationMeetsRule view index held = held ≡ None
