-- Class 22, Single action schedule, version 0 (IEC 62056-6-2): two cells, executed_script at 2 and execution_time at 4; type
-- at 3 is fixed, and executed_script too where there is no menu of scripts (own profile): then the cell at 2 isn't read, and no
-- write of it is accepted. No method.
use Rattle.std.specs.Prelude.{ℕ, List, map, Option, Result, Ok, Some, Bool, false, not, ◌==◌, ◌&&◌, ◌||◌, if◌then◌else◌}
use Rattle.cosem_data.specs.Tree.{Tree, enumerated}
use Rattle.cosem_data.specs.declared.name.LogicalName.{LogicalName}
use Rattle.meter_theory.specs.declared.refs.ScriptRef.{ScriptRef}
use Rattle.cosem_data.specs.declared.kind.Kind.TheVariants.{Structure}
use Rattle.meter_theory.specs.Menus.{Choice, alternatives, has_menu}
use Rattle.meter_theory.specs.Value.{Rule, ExecutionTimes, OneOf, meets}
use Rattle.meter_theory.specs.Fixed.{name_value, script_ref_value}
use Rattle.cosem_class.specs.declared.class.Op.{Op}
use Rattle.cosem_class.specs.declared.class.Op.TheVariants.{Write, Invoke, Remember}
use Rattle.cosem_class.specs.declared.class.ClassFault.{ClassFault}
use Rattle.cosem_class.specs.declared.class.ClassFault.TheVariants.{NoIndex}
use Rattle.cosem_class.specs.Objects.{Cells, put_at, no_cells, value_or_no_index, IsCellWhere}
use Rattle.cosem_class.specs.Judged.{judged, write_fault}
use Rattle.class_control.specs.PartView.{scripts_of_part}
use Rattle.class_control.specs.declared.parts.SchedulePart.{SchedulePart}

-- what is fixed of an object: its name, the scripts that it may run and its type
pub record ScheduleFixed : Type 0 where
  pub name : LogicalName
  pub script : Choice ScriptRef
  pub type : ℕ

-- what a part fixes of an object with this name
abbrev pub schedule_fixed : LogicalName → SchedulePart → ScheduleFixed
schedule_fixed name part = record { name = name; script = scripts_of_part part; type = part.execution_type }

-- two cells: the script at 2 and the times at 4
abbrev pub schedule_cells : (script times : Tree) → Cells
schedule_cells script times = put_at 2 script (put_at 4 times no_cells)

-- the cells that an object holds: one at 2 only where the script can be set (own profile)
abbrev pub schedule_held : (script : Option Tree) → (times : Tree) → Cells
schedule_held script times index = if index == 2 then script else put_at 4 times no_cells index

-- what the script may be, where there is a menu (own profile), and what the times may be
abbrev pub script_rule : ScheduleFixed → Rule
script_rule fixed = OneOf Structure (map script_ref_value (alternatives fixed.script))

abbrev pub schedule_rule : ScheduleFixed → ℕ → Rule
schedule_rule fixed index = if index == 2 then script_rule fixed else ExecutionTimes fixed.type

-- execution_time, and executed_script where there is a menu
abbrev pub is_settable : ScheduleFixed → ℕ → Bool
is_settable fixed index = (index == 4) || (has_menu fixed.script && (index == 2))

-- 1, logical_name, and 3, type, are fixed, and 2, executed_script, without a menu, 2 and 4 are cells, and there is no other
abbrev pub schedule_reading : ScheduleFixed → ℕ → Option Tree → Result Tree ClassFault
schedule_reading fixed index cell =
    if index == 1 then Ok (name_value fixed.name)
    else if not (has_menu fixed.script) && (index == 2) then Ok (script_ref_value fixed.script.configured)
    else if index == 3 then Ok (enumerated fixed.type) else value_or_no_index cell

-- A write of 4 is judged by the type and one of 2 by the menu; no other attribute is settable, and there is no method.
abbrev pub schedule_refusal : ScheduleFixed → Op → Tree → Option ClassFault
schedule_refusal fixed (Write index) value =
    write_fault (is_settable fixed index) ((index == 1) || ((index == 2) || (index == 3))) (judged (schedule_rule fixed index) value)
schedule_refusal fixed (Invoke method) argument = Some NoIndex
schedule_refusal fixed Remember argument = Some NoIndex

-- a write puts its value
abbrev pub schedule_new_value : ScheduleFixed → Op → Tree → List Tree → Cells → ℕ → Option Tree
schedule_new_value fixed op argument row cells i = Some argument

-- a write of 4 may change 4 and one of 2 may change 2, and nothing else changes
abbrev pub schedule_touched : Op → ℕ → Bool
schedule_touched (Write index) i = ((index == 4) && (i == 4)) || ((index == 2) && (i == 2))
schedule_touched (Invoke method) i = false
schedule_touched Remember i = false

-- the script is one of the menu, where there is one, and the times fit the type, within the limits
abbrev pub schedule_test : ScheduleFixed → ℕ → Tree → Bool
schedule_test fixed index value = (not (has_menu fixed.script) && (index == 2)) || meets (schedule_rule fixed index) value

abbrev pub ScheduleMeetsRule : ScheduleFixed → ℕ → Option Tree → Type 0
ScheduleMeetsRule fixed index cell = IsCellWhere ((index == 2) || (index == 4)) (schedule_test fixed index) cell
