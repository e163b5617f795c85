-- What a part of the code stands for.
use Rattle.std.specs.Prelude.{Option, Some, None}
use Rattle.cosem_data.specs.Kinds.{kind_of}
use Rattle.cosem_data.specs.declared.cell.CellRef.{CellRef}
use Rattle.cosem_data.specs.declared.kind.Kind.{Kind}
use Rattle.cosem_data.specs.declared.kind.Kind.TheVariants.{NullData}
use Rattle.meter_theory.specs.State.{value}
use Rattle.meter_theory.specs.Plan as theory
use Rattle.meter_theory.specs.Plan.{start_values}
use Rattle.cosem_class.specs.Parts.{data_part_of, register_part_of}
use Rattle.class_profile.specs.PartView.{profile_part_of}
use Rattle.class_control.specs.PartView.{clock_part_of, script_table_part_of, monitor_part_of, schedule_part_of}
use Rattle.object_model.specs.declared.part.Part.{Part}
use Rattle.object_model.specs.declared.part.Part.TheVariants as parts

-- what is fixed of an object by its class, with the trees of its values: IEC 62056-6-2, interface classes
abbrev pub part_of : Part → theory.Part
part_of (parts.Data part) = data_part_of part
part_of (parts.Register part) = register_part_of part
part_of (parts.ProfileGeneric part) = profile_part_of part
part_of (parts.Clock part) = clock_part_of part
part_of (parts.ScriptTable part) = script_table_part_of part
part_of (parts.RegisterMonitor part) = monitor_part_of part
part_of (parts.SingleActionSchedule part) = schedule_part_of part

-- the attribute that a register monitor watches: IEC 62056-6-2, Register monitor, monitored_value
abbrev pub monitored_in : theory.Part → Option CellRef
monitored_in (theory.RegisterMonitor monitored thresholds actions) = Some monitored
monitored_in _ = None

-- the kind of the value that it watches, that of null-data where there is none: own profile
abbrev pub monitored_kind : theory.Plan → theory.Part → Kind
monitored_kind P (theory.RegisterMonitor monitored thresholds actions) = kind_of (value (start_values P) monitored)
monitored_kind P _ = NullData
