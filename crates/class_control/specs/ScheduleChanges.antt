-- The cells of a single action schedule before a change of it.
use Rattle.std.specs.Prelude.{ℕ, Option, Some}
use Rattle.cosem_data.specs.View.{tree}
use Rattle.cosem_data.specs.Tree.{Tree}
use Rattle.class_control.specs.declared.schedule.ScheduleChange.{ScheduleChange}
use Rattle.class_control.specs.declared.schedule.ScheduleChange.TheVariants as changes

-- the script before: IEC 62056-6-2, Single action schedule, executed_script
abbrev pub script_before : ScheduleChange → Option Tree → Option Tree
script_before (changes.Script held) now = Some (tree held)
script_before (changes.Times held) now = now

-- the times before: IEC 62056-6-2, Single action schedule, execution_time
abbrev pub times_before : ScheduleChange → Tree → Tree
times_before (changes.Script held) now = now
times_before (changes.Times held) now = tree held

-- the index of the cell that was changed
abbrev pub index_changed : ScheduleChange → ℕ
index_changed (changes.Script held) = 2
index_changed (changes.Times held) = 4
