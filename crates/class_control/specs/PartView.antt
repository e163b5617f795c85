-- What the fixed parts of the code stand for.
use Rattle.std.specs.Prelude.{map}
use Rattle.cosem_data.specs.View.{tree}
use Rattle.meter_theory.specs.declared.refs.ScriptRef.{ScriptRef}
use Rattle.meter_theory.specs.Menus.{Choice}
use Rattle.meter_theory.specs.Plan as theory
use Rattle.class_control.specs.ScriptView.{script_of}
use Rattle.class_control.specs.declared.parts.ClockPart.{ClockPart}
use Rattle.class_control.specs.declared.parts.ScriptTablePart.{ScriptTablePart}
use Rattle.class_control.specs.declared.parts.MonitorPart.{MonitorPart}
use Rattle.class_control.specs.declared.parts.SchedulePart.{SchedulePart}

-- the moment at which a clock starts: IEC 62056-6-2, Clock
abbrev pub clock_part_of : ClockPart → theory.Part
clock_part_of part = theory.Clock part.start

-- the scripts of a table: IEC 62056-6-2, Script table
abbrev pub script_table_part_of : ScriptTablePart → theory.Part
script_table_part_of part = theory.ScriptTable (map script_of part.scripts.items)

-- what a register monitor watches, its thresholds at the start and its actions: IEC 62056-6-2, Register monitor
abbrev pub monitor_part_of : MonitorPart → theory.Part
monitor_part_of part = theory.RegisterMonitor part.monitored_value (tree part.start) part.actions.items

-- the scripts that a schedule may run: IEC 62056-6-2, Single action schedule, executed_script; the menu is own profile
abbrev pub scripts_of_part : SchedulePart → Choice ScriptRef
scripts_of_part part = record { configured = part.executed_script; menu = part.menu.items }

-- the scripts of a schedule, its type and its times at the start: IEC 62056-6-2, Single action schedule
abbrev pub schedule_part_of : SchedulePart → theory.Part
schedule_part_of part = theory.SingleActionSchedule (scripts_of_part part) part.execution_type (tree part.start)
