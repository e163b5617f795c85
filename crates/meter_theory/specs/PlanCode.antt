-- Plans and states as pairs, sums and lists: what Rattle asks of a type that is seen as a value.
use Rattle.std.specs.Prelude.{◌≡◌, refl, ℕ, ℤ, Bool, List, Option, ◌⊎◌}
use Rattle.std.proofs.Common.{inl, inr}
use Rattle.std.specs.Coded.{Coded, code_by, coded_list, coded_option, coded_ℕ, coded_ℤ, coded_bool, coded×, coded⊎}
use Rattle.cosem_data.specs.Tree.{Tree}
use Rattle.cosem_data.specs.TreeCode.{tree_code}
use Rattle.cosem_data.specs.declared.name.LogicalName.{LogicalName}
use Rattle.cosem_data.specs.declared.cell.CellRef.{CellRef}
use Rattle.cosem_data.specs.declared.cell.MethodRef.{MethodRef}
use Rattle.meter_theory.specs.Menus.{Choice}
use Rattle.meter_theory.specs.Times.{Moment}
use Rattle.meter_theory.specs.State.{State}
use Rattle.meter_theory.specs.declared.refs.ScriptRef.{ScriptRef}
use Rattle.meter_theory.specs.declared.refs.ScalerUnit.{ScalerUnit}
use Rattle.meter_theory.specs.declared.refs.UpDown.{UpDown}
use Rattle.meter_theory.specs.Plan.{Client, Action, Write, Invoke, Script, Part, Data1, Register, ProfileGeneric, Clock, ScriptTable, RegisterMonitor, SingleActionSchedule, Object, Right, Plan}

abbrev pub name_code : Coded LogicalName
name_code = code_by (List ℕ) (coded_list coded_ℕ) (λ n. n.0) (λ bytes. record { 0 = bytes }) (λ _. refl)

-- class, name and index
abbrev pub Place : Type 0
Place = ℕ × (LogicalName × ℕ)

abbrev pub place_code : Coded Place
place_code = coded× coded_ℕ (coded× name_code coded_ℕ)

abbrev pub cell_code : Coded CellRef
cell_code =
    code_by Place place_code (λ x. (x.class_id, (x.name, x.index))) (λ p. record { class_id = p.0; name = p.1.0; index = p.1.1 }) (λ _. refl)

abbrev pub method_code : Coded MethodRef
method_code =
    code_by Place place_code (λ x. (x.class_id, (x.name, x.index))) (λ p. record { class_id = p.0; name = p.1.0; index = p.1.1 }) (λ _. refl)

abbrev pub state_code : Coded State
state_code = coded_list (coded× cell_code tree_code)

abbrev pub script_ref_code : Coded ScriptRef
script_ref_code = code_by (LogicalName × ℕ) (coded× name_code coded_ℕ) (λ r. (r.table, r.script)) (λ p. record { table = p.0; script = p.1 }) (λ _. refl)

abbrev pub client_code : Coded Client
client_code =
    code_by (List ℕ × (ℕ × Option (List ℕ))) (coded× (coded_list coded_ℕ) (coded× coded_ℕ (coded_option (coded_list coded_ℕ))))
    (λ c. (c.name, (c.sap, c.password))) (λ p. record { name = p.0; sap = p.1.0; password = p.1.1 }) (λ _. refl)

abbrev pub scaler_unit_code : Coded ScalerUnit
scaler_unit_code = code_by (ℤ × ℕ) (coded× coded_ℤ coded_ℕ) (λ u. (u.scaler, u.unit)) (λ p. record { scaler = p.0; unit = p.1 }) (λ _. refl)

abbrev pub ActionParts : Type 0
ActionParts = (CellRef × Tree) ⊎ (MethodRef × Tree)

abbrev pub from_action : Action → ActionParts
from_action (Write x v) = inl (x, v)
from_action (Invoke m parameter) = inr (m, parameter)

abbrev pub to_action : ActionParts → Action
to_action (inl w) = Write w.0 w.1
to_action (inr i) = Invoke i.0 i.1

pub to_action-from : (a : Action) → to_action (from_action a) ≡ a
to_action-from (Write x v) = refl
to_action-from (Invoke m parameter) = refl

abbrev pub action_code : Coded Action
action_code = code_by ActionParts (coded⊎ (coded× cell_code tree_code) (coded× method_code tree_code)) from_action to_action to_action-from

abbrev pub script_code : Coded Script
script_code = code_by (ℕ × List Action) (coded× coded_ℕ (coded_list action_code)) (λ s. (s.id, s.actions)) (λ p. record { id = p.0; actions = p.1 }) (λ _. refl)

abbrev pub up_down_code : Coded UpDown
up_down_code = code_by (ScriptRef × ScriptRef) (coded× script_ref_code script_ref_code) (λ a. (a.up, a.down)) (λ p. record { up = p.0; down = p.1 }) (λ _. refl)

abbrev pub moment_code : Coded Moment
moment_code =
    code_by (ℕ × (ℕ × (ℕ × (ℕ × (ℕ × ℕ))))) (coded× coded_ℕ (coded× coded_ℕ (coded× coded_ℕ (coded× coded_ℕ (coded× coded_ℕ coded_ℕ)))))
    (λ t. (t.year, (t.month, (t.day, (t.hour, (t.minute, t.second))))))
    (λ p. record { year = p.0; month = p.1.0; day = p.1.1.0; hour = p.1.1.1.0; minute = p.1.1.1.1.0; second = p.1.1.1.1.1 }) (λ _. refl)

abbrev pub choice_code : {A : Type 0} → Coded A → Coded (Choice A)
choice_code {A = A} code =
    code_by (A × List A) (coded× code (coded_list code)) (λ c. (c.configured, c.menu)) (λ p. record { configured = p.0; menu = p.1 }) (λ _. refl)

abbrev pub PartParts : Type 0
PartParts =
    Tree ⊎ ((Tree × (Tree × ScalerUnit)) ⊎ ((Choice (List CellRef) × (ℕ × ℕ)) ⊎ (Moment ⊎ (List Script ⊎ ((CellRef × (Tree × List UpDown)) ⊎ (Choice ScriptRef × (ℕ × Tree)))))))

abbrev pub from_part : Part → PartParts
from_part (Data1 start) = inl start
from_part (Register start default scaler_unit) = inr (inl (start, (default, scaler_unit)))
from_part (ProfileGeneric captured period entries) = inr (inr (inl (captured, (period, entries))))
from_part (Clock start) = inr (inr (inr (inl start)))
from_part (ScriptTable scripts) = inr (inr (inr (inr (inl scripts))))
from_part (RegisterMonitor monitored thresholds actions) = inr (inr (inr (inr (inr (inl (monitored, (thresholds, actions)))))))
from_part (SingleActionSchedule script type times) = inr (inr (inr (inr (inr (inr (script, (type, times)))))))

abbrev pub to_part : PartParts → Part
to_part (inl start) = Data1 start
to_part (inr (inl p)) = Register p.0 p.1.0 p.1.1
to_part (inr (inr (inl p))) = ProfileGeneric p.0 p.1.0 p.1.1
to_part (inr (inr (inr (inl start)))) = Clock start
to_part (inr (inr (inr (inr (inl scripts))))) = ScriptTable scripts
to_part (inr (inr (inr (inr (inr (inl p)))))) = RegisterMonitor p.0 p.1.0 p.1.1
to_part (inr (inr (inr (inr (inr (inr p)))))) = SingleActionSchedule p.0 p.1.0 p.1.1

pub to_part-from : (part : Part) → to_part (from_part part) ≡ part
to_part-from (Data1 start) = refl
to_part-from (Register start default scaler_unit) = refl
to_part-from (ProfileGeneric captured period entries) = refl
to_part-from (Clock start) = refl
to_part-from (ScriptTable scripts) = refl
to_part-from (RegisterMonitor monitored thresholds actions) = refl
to_part-from (SingleActionSchedule script type times) = refl

abbrev pub part_code : Coded Part
part_code =
    code_by PartParts (coded⊎ tree_code (coded⊎ (coded× tree_code (coded× tree_code scaler_unit_code))
    (coded⊎ (coded× (choice_code (coded_list cell_code)) (coded× coded_ℕ coded_ℕ)) (coded⊎ moment_code (coded⊎ (coded_list script_code)
    (coded⊎ (coded× cell_code (coded× tree_code (coded_list up_down_code))) (coded× (choice_code script_ref_code) (coded× coded_ℕ tree_code)))))))) from_part to_part to_part-from

abbrev pub object_code : Coded Object
object_code =
    code_by (LogicalName × (Bool × Part)) (coded× name_code (coded× coded_bool part_code)) (λ o. (o.name, (o.fed, o.part))) (λ p. record { name = p.0; fed = p.1.0; part = p.1.1 }) (λ _. refl)

abbrev pub right_code : Coded Right
right_code =
    code_by (ℕ × (LogicalName × (List ℕ × (List ℕ × List ℕ)))) (coded× coded_ℕ (coded× name_code (coded× (coded_list coded_ℕ) (coded× (coded_list coded_ℕ) (coded_list coded_ℕ)))))
    (λ r. (r.client, (r.object, (r.gets, (r.sets, r.acts))))) (λ p. record { client = p.0; object = p.1.0; gets = p.1.1.0; sets = p.1.1.1.0; acts = p.1.1.1.1 }) (λ _. refl)

abbrev pub plan_code : Coded Plan
plan_code =
    code_by (ℕ × (List Client × (List Object × List Right))) (coded× coded_ℕ (coded× (coded_list client_code) (coded× (coded_list object_code) (coded_list right_code))))
    (λ p. (p.version, (p.clients, (p.objects, p.rights)))) (λ p. record { version = p.0; clients = p.1.0; objects = p.1.1.0; rights = p.1.1.1 }) (λ _. refl)
