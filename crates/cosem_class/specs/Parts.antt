-- What is fixed of an object by its class, and what the class says of it.
use Rattle.std.specs.Prelude.{◌==◌, ℕ, cond, length, List, [], ◌∷◌, map, flat_map, Option, Some, None}
use Rattle.cosem_data.specs.View.{tree}
use Rattle.cosem_data.specs.Kinds.{kind_of}
use Rattle.cosem_data.specs.declared.kind.Kind.{Kind}
use Rattle.cosem_data.specs.declared.kind.Kind.TheVariants.{Array, Structure, DoubleLongUnsigned}
use Rattle.cosem_data.specs.declared.name.LogicalName.{LogicalName}
use Rattle.meter_theory.specs.Menus.{alternatives, capture_objects_value, script_ref_value}
use Rattle.meter_theory.specs.Value.{Rule, OfKind, Thresholds, ExecutionTimes, ClockTime}
use Rattle.meter_theory.specs.Edges.{captured_by, scripts_named}
use Rattle.meter_theory.specs.Plan.{Action, Write, Invoke, Part, Data1, Register, ProfileGeneric, Clock, ScriptTable, RegisterMonitor, SingleActionSchedule, rule_of_choice}
use Rattle.cosem_class.specs.declared.data1.DataPart.{DataPart}
use Rattle.cosem_class.specs.declared.register.RegisterPart.{RegisterPart}

-- the start of a value: IEC 62056-6-2, Data
abbrev pub data_part_of : DataPart → Part
data_part_of part = Data1 (tree part.start)

-- the start of a value, what a reset puts, and scaler and unit: IEC 62056-6-2, Register
abbrev pub register_part_of : RegisterPart → Part
register_part_of part = Register (tree part.start) (tree part.default) part.scaler_unit

-- what a settable cell may hold, where a register monitor watches a value of this kind: own profile
abbrev pub rule_watching : Kind → Part → ℕ → Option Rule
rule_watching monitored (Data1 first) index = cond (index == 2) (Some (OfKind (kind_of first))) None
rule_watching monitored (Register first default scaler_unit) index = cond (index == 2) (Some (OfKind (kind_of first))) None
rule_watching monitored (ProfileGeneric captured period entries) index =
    cond (index == 4) (Some (OfKind DoubleLongUnsigned))
    (cond (index == 3) (rule_of_choice Array capture_objects_value captured) None)
rule_watching monitored (Clock first) index = cond (index == 2) (Some ClockTime) None
rule_watching monitored (ScriptTable scripts) index = None
rule_watching monitored (RegisterMonitor source thresholds actions) index =
    cond (index == 2) (Some (Thresholds (length actions) monitored)) None
rule_watching monitored (SingleActionSchedule script type times) index =
    cond (index == 4) (Some (ExecutionTimes type)) (cond (index == 2) (rule_of_choice Structure script_ref_value script) None)

-- whose attribute an action writes, or whose method it executes: IEC 62056-6-2, Script table, action_specification
abbrev pub target : Action → LogicalName
target (Write x v) = x.name
target (Invoke m parameter) = m.name

-- The objects to which a part refers, in its order: of the cells that a profile may capture, of the targets of its scripts'
-- actions, of the monitored value and then of the scripts that may be run, alternative by alternative: IEC 62056-6-2,
-- interface classes.
abbrev pub references : Part → List LogicalName
references (ProfileGeneric captured period entries) = map (λ x. x.name) (captured_by captured)
references (ScriptTable scripts) = flat_map (λ s. map target s.actions) scripts
references (RegisterMonitor monitored thresholds actions) = monitored.name ∷ map (λ r. r.table) (scripts_named actions)
references (SingleActionSchedule script type times) = map (λ r. r.table) (alternatives script)
references _ = []
