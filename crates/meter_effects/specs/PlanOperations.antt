-- The operations of a plan's objects, as their classes define them.
use Rattle.std.specs.Prelude.{◌≡◌, ℕ, Bool, List, [], map, Option, None}
use Rattle.cosem_data.specs.Tree.{Tree}
use Rattle.cosem_data.specs.Kinds.{kind_of}
use Rattle.cosem_data.specs.declared.name.LogicalName.{LogicalName}
use Rattle.meter_theory.specs.Lists.{IsIn}
use Rattle.meter_theory.specs.State.{State, value}
use Rattle.meter_theory.specs.Plan.{Plan, Object, Part, Data1, Register, ProfileGeneric, Clock, ScriptTable, RegisterMonitor, SingleActionSchedule, class_of, start_values}
use Rattle.meter_theory.specs.Steps.{captured_in}
use Rattle.cosem_class.specs.declared.class.Op.{Op}
use Rattle.cosem_class.specs.declared.class.ClassFault.{ClassFault}
use Rattle.cosem_class.specs.Objects.{Cells}
use Rattle.cosem_class.specs.DataClass.{DataFixed, data_refusal, data_touched, data_new_value}
use Rattle.cosem_class.specs.RegisterClass.{RegisterFixed, register_refusal, register_touched, register_new_value}
use Rattle.class_profile.specs.ProfileClass.{ProfileFixed, profile_refusal, profile_touched, profile_new_value}
use Rattle.class_control.specs.ClockClass.{ClockFixed, clock_refusal, clock_touched, clock_new_value}
use Rattle.class_control.specs.ScriptTableClass.{ScriptTableFixed, script_table_refusal, script_table_touched, script_table_new_value}
use Rattle.class_control.specs.MonitorClass.{MonitorFixed, monitor_refusal, monitor_touched, monitor_new_value}
use Rattle.class_control.specs.ScheduleClass.{ScheduleFixed, schedule_refusal, schedule_touched, schedule_new_value}
use Rattle.meter_effects.specs.Operations.{IsOperation}

-- what a class says of the operations of one object: which it refuses, which cells they touch, what these get
pub record ObjectOperations : Type 0 where
  pub refusal : Op → Tree → Option ClassFault
  pub touched : Op → ℕ → Bool
  pub new_value : Op → Tree → List Tree → Cells → ℕ → Option Tree

-- the operations of an object with this name, as its class defines them over what the plan fixes of it: IEC 62056-6-2,
-- interface classes
abbrev pub operations_in : Plan → LogicalName → Part → ObjectOperations
operations_in P name (Data1 first) =
    let fixed : DataFixed = record { name = name; kind = kind_of first } in
    record { refusal = data_refusal fixed; touched = data_touched; new_value = data_new_value fixed }
operations_in P name (Register first default scaler_unit) =
    let fixed : RegisterFixed = record { name = name; start = first; default = default; scaler_unit = scaler_unit } in
    record { refusal = register_refusal fixed; touched = register_touched; new_value = register_new_value fixed }
operations_in P name (ProfileGeneric captured period entries) =
    let fixed : ProfileFixed = record { name = name; captured = captured; period = period; entries = entries } in
    record { refusal = profile_refusal fixed; touched = profile_touched; new_value = profile_new_value fixed }
operations_in P name (Clock first) =
    let fixed : ClockFixed = record { name = name } in
    record { refusal = clock_refusal fixed; touched = clock_touched; new_value = clock_new_value fixed }
operations_in P name (ScriptTable scripts) =
    let fixed : ScriptTableFixed = record { name = name; scripts = scripts } in
    record { refusal = script_table_refusal fixed; touched = script_table_touched; new_value = script_table_new_value fixed }
operations_in P name (RegisterMonitor monitored thresholds actions) =
    let fixed : MonitorFixed = record { name = name; monitored = monitored; kind = kind_of (value (start_values P) monitored); actions = actions } in
    record { refusal = monitor_refusal fixed; touched = monitor_touched; new_value = monitor_new_value fixed }
operations_in P name (SingleActionSchedule script type times) =
    let fixed : ScheduleFixed = record { name = name; script = script; type = type } in
    record { refusal = schedule_refusal fixed; touched = schedule_touched; new_value = schedule_new_value fixed }

-- the operations of an object of the plan
abbrev pub operations_of : Plan → Object → ObjectOperations
operations_of P o = operations_in P o.name o.part

-- the row that a profile takes in a state, of the cells that it captures then: IEC 62056-6-2, Profile generic, capture_objects
abbrev pub row_in : LogicalName → Part → State → List Tree
row_in name (ProfileGeneric captured period entries) s = map (value s) (captured_in s name captured)
row_in name _ s = []

-- A change of the state is this operation of the plan's object, by the object's class.
abbrev pub IsOperationOf : Plan → Object → Op → Tree → (State → State) → Type 0
IsOperationOf P o op argument change =
    IsOperation (class_of o.part) o.name ((operations_of P o).touched op) ((operations_of P o).new_value op argument) (row_in o.name o.part) change

-- A change of the state is this operation of an object of the plan, which the object's class does not refuse.
pub record IsAcceptedOperation (P : Plan) (op : Op) (argument : Tree) (change : State → State) : Type 0 where
  pub object : Object
  pub of_plan : IsIn P.objects object
  pub accepted : (operations_of P object).refusal op argument ≡ None
  pub operation : IsOperationOf P object op argument change
