-- A state with what stood in it before effects.
use Rattle.std.specs.Prelude.{List, [], ◌∷◌, Option, Some, None, option_map}
use Rattle.cosem_data.specs.View.{tree}
use Rattle.cosem_data.specs.declared.cell.CellRef.{CellRef}
use Rattle.cosem_data.specs.declared.name.LogicalName.{LogicalName}
use Rattle.meter_theory.specs.Plan.{data_value, register_value, buffer, capture_objects, capture_period, entries_in_use, clock_time, thresholds, seen, executed_script, execution_time}
use Rattle.meter_theory.specs.State.{State, value, put}
use Rattle.meter_theory.specs.Times.{clock_value}
use Rattle.meter_theory.specs.Value.{array_of, counter, elements}
use Rattle.class_profile.specs.Reversal.{rows_before}
use Rattle.class_control.specs.declared.monitor.MonitorChange.{MonitorChange}
use Rattle.class_control.specs.declared.monitor.MonitorChange.TheVariants as monitors
use Rattle.class_control.specs.declared.schedule.ScheduleChange.{ScheduleChange}
use Rattle.class_control.specs.declared.schedule.ScheduleChange.TheVariants as schedules
use Rattle.class_profile.specs.declared.profile.Cleared.{Cleared}
use Rattle.class_profile.specs.declared.profile.ProfileChange.{ProfileChange}
use Rattle.class_profile.specs.declared.profile.ProfileChange.TheVariants as profiles
use Rattle.object_model.specs.declared.undo.Change.{Change}
use Rattle.object_model.specs.declared.undo.Change.TheVariants as changes
use Rattle.object_model.specs.declared.undo.Undo.{Undo}

-- the state with what a change of the profile with this name found: own profile
abbrev pub profile_undone : LogicalName → ProfileChange → State → State
profile_undone n (profiles.Period held) s = put s (capture_period n) (counter held)
profile_undone n (profiles.Objects held) s = put s (capture_objects n) (tree held)
profile_undone n (profiles.Captured captured) s =
    put (put s (buffer n) (array_of (rows_before (option_map tree captured.dropped) (elements (value s (buffer n)))))) (entries_in_use n) (counter captured.entries_in_use)
profile_undone n (profiles.Cleared cleared) s = put (put s (buffer n) (array_of cleared.buffer)) (entries_in_use n) (counter cleared.entries_in_use)

-- the same of a register monitor: own profile
abbrev pub monitor_undone : LogicalName → MonitorChange → State → State
monitor_undone n (monitors.Thresholds held) s = put s (thresholds n) (tree held)
monitor_undone n (monitors.Seen held) s = put s (seen n) (tree held)

-- the same of a single action schedule: own profile
abbrev pub schedule_undone : LogicalName → ScheduleChange → State → State
schedule_undone n (schedules.Script held) s = put s (executed_script n) (tree held)
schedule_undone n (schedules.Times held) s = put s (execution_time n) (tree held)

-- the state with what a change of the object with this name found: own profile
abbrev pub change_undone : LogicalName → Change → State → State
change_undone n (changes.Data held) s = put s (data_value n) (tree held)
change_undone n (changes.Register held) s = put s (register_value n) (tree held)
change_undone n (changes.ProfileGeneric change) s = profile_undone n change s
change_undone n (changes.Clock held) s = put s (clock_time n) (clock_value held)
change_undone n (changes.RegisterMonitor change) s = monitor_undone n change s
change_undone n (changes.SingleActionSchedule change) s = schedule_undone n change s

-- a cell of the profile that was changed: own profile
abbrev pub profile_changed : LogicalName → ProfileChange → CellRef
profile_changed n (profiles.Period held) = capture_period n
profile_changed n (profiles.Objects held) = capture_objects n
profile_changed n (profiles.Captured captured) = buffer n
profile_changed n (profiles.Cleared cleared) = buffer n

-- the same of a register monitor: own profile
abbrev pub monitor_changed : LogicalName → MonitorChange → CellRef
monitor_changed n (monitors.Thresholds held) = thresholds n
monitor_changed n (monitors.Seen held) = seen n

-- the same of a single action schedule: own profile
abbrev pub schedule_changed : LogicalName → ScheduleChange → CellRef
schedule_changed n (schedules.Script held) = executed_script n
schedule_changed n (schedules.Times held) = execution_time n

-- a cell of the object that was changed: own profile
abbrev pub cell_changed : LogicalName → Change → CellRef
cell_changed n (changes.Data held) = data_value n
cell_changed n (changes.Register held) = register_value n
cell_changed n (changes.ProfileGeneric change) = profile_changed n change
cell_changed n (changes.Clock held) = clock_time n
cell_changed n (changes.RegisterMonitor change) = monitor_changed n change
cell_changed n (changes.SingleActionSchedule change) = schedule_changed n change

-- the state with the entries of the profile with this name that were emptied, if any were: own profile
abbrev pub emptied_undone : LogicalName → Option Cleared → State → State
emptied_undone n None s = s
emptied_undone n (Some cleared) s = profile_undone n (profiles.Cleared cleared) s

-- the state before one effect: what was changed last is put back, and then what was emptied before (own profile)
abbrev pub undone : Undo → State → State
undone undo s = emptied_undone undo.name undo.emptied (change_undone undo.name undo.change s)

-- the state before several effects, given in their order: the last is the first to be taken back (own profile)
abbrev pub all_undone : List Undo → State → State
all_undone [] s = s
all_undone (undo ∷ undos) s = undone undo (all_undone undos s)
