-- What the stored objects of a meter stand for.
use Rattle.std.specs.Prelude.{ℕ, ◌==◌, is_some, Bool, true, false, List, [], ◌∷◌, ◌++◌, flat_map, Option, Some, None, option_map}
use Rattle.std.specs.List.{list_any}
use Rattle.cosem_data.specs.View.{tree}
use Rattle.cosem_data.specs.Tree.{Tree}
use Rattle.cosem_data.specs.Cells.{same_cell}
use Rattle.cosem_data.specs.declared.name.LogicalName.{LogicalName}
use Rattle.cosem_data.specs.declared.cell.CellRef.{CellRef}
use Rattle.meter_theory.specs.State.{State, keys, value, put}
use Rattle.meter_theory.specs.Times.{Moment, clock_value}
use Rattle.meter_theory.specs.Value.{array_of, counter, structure_of}
use Rattle.meter_theory.specs.Steps.{buffer_after, in_use_after}
use Rattle.meter_theory.specs.Plan.{data_value, register_value, buffer, capture_objects, capture_period, entries_in_use, clock_time, thresholds, seen, executed_script, execution_time, inner_clock}
use Rattle.class_profile.specs.declared.held.ProfileHeld.{ProfileHeld}
use Rattle.class_profile.specs.declared.held.ProfileHeld.TheVariants as lent
use Rattle.class_profile.specs.ProfileView.{has_cell}
use Rattle.class_control.specs.ClockClass.{clock_cells}
use Rattle.class_control.specs.MonitorClass.{monitor_cells}
use Rattle.class_control.specs.ScheduleClass.{schedule_held}
use Rattle.object_model.specs.declared.held.Held.{Held}
use Rattle.object_model.specs.declared.held.Held.TheVariants as held
use Rattle.object_model.specs.declared.stored.Cells.{Cells}
use Rattle.object_model.specs.declared.stored.Cells.TheVariants as cells
use Rattle.object_model.specs.declared.stored.Stored.{Stored}

-- the cell of an attribute that a plan may fix, and none where it does: own profile
abbrev pub pair_if : CellRef → Option Tree → State
pair_if x None = []
pair_if x (Some value) = (x, value) ∷ []

-- the cells of an object with this name, in the order of its class: IEC 62056-6-2, interface classes
abbrev pub pairs_of : LogicalName → Cells → State
pairs_of n (cells.Data object) = (data_value n, tree object.value) ∷ []
pairs_of n (cells.Register object) = (register_value n, tree object.value) ∷ []
pairs_of n (cells.ProfileGeneric object) =
    (buffer n, array_of object.buffer)
    ∷ pair_if (capture_objects n) (option_map tree object.capture_objects)
    ++ (capture_period n, counter object.capture_period) ∷ (entries_in_use n, counter object.entries_in_use) ∷ []
pairs_of n (cells.Clock object) = (clock_time n, clock_value object.time) ∷ []
pairs_of n (cells.RegisterMonitor object) = (thresholds n, tree object.thresholds) ∷ (seen n, tree object.seen) ∷ []
pairs_of n (cells.SingleActionSchedule object) =
    pair_if (executed_script n) (option_map tree object.executed_script) ++ (execution_time n, tree object.times) ∷ []

-- the same of a stored object: own profile
abbrev pub stored_pairs : Stored → State
stored_pairs o = pairs_of o.name o.cells

-- the same of stored objects, those of one behind those of the other: own profile
abbrev pub all_pairs : List Stored → State
all_pairs objects = flat_map stored_pairs objects

-- the same of an object that has cells, and none of one that has not: own profile
abbrev pub pairs_if : Option Stored → State
pairs_if None = []
pairs_if (Some o) = stored_pairs o

-- whether it is a cell of the stored object: own profile
abbrev pub stores : CellRef → Stored → Bool
stores x o = list_any (same_cell x) (keys (stored_pairs o))

-- the class of a stored object: IEC 62056-6-2, interface classes
abbrev pub class_stored : Cells → ℕ
class_stored (cells.Data object) = 1
class_stored (cells.Register object) = 3
class_stored (cells.ProfileGeneric object) = 7
class_stored (cells.Clock object) = 8
class_stored (cells.RegisterMonitor object) = 21
class_stored (cells.SingleActionSchedule object) = 22

-- whether it has a cell at an index, by its class: IEC 62056-6-2, interface classes
abbrev pub has_index : Cells → ℕ → Bool
has_index (cells.Data object) index = index == 2
has_index (cells.Register object) index = index == 2
has_index (cells.ProfileGeneric object) index = has_cell object index
has_index (cells.Clock object) index = is_some (clock_cells (clock_value object.time) index)
has_index (cells.RegisterMonitor object) index = is_some (monitor_cells (tree object.seen) (tree object.thresholds) index)
has_index (cells.SingleActionSchedule object) index =
    is_some (schedule_held (option_map tree object.executed_script) (tree object.times) index)

-- the inner clock of a meter, if it has one: own profile
abbrev pub inner_pairs : Option Moment → State
inner_pairs None = []
inner_pairs (Some t) = (inner_clock, clock_value t) ∷ []

-- the value that is lent: own profile
abbrev pub held_tree : Held → Tree
held_tree (held.Value value) = tree value.now
held_tree (held.Number number) = counter number
held_tree (held.Rows rows) = array_of rows.now
held_tree (held.Time moment) = clock_value moment

-- the cells of a profile after a capture of this row: IEC 62056-6-2, Profile generic, capture
abbrev pub captured : LogicalName → ℕ → List Tree → State → State
captured n entries row s =
    put (put s (buffer n) (buffer_after entries (value s (buffer n)) (structure_of row))) (entries_in_use n) (in_use_after entries (value s (entries_in_use n)))

-- the entries of a profile are lent: own profile
abbrev pub is_rows : Held → Bool
is_rows (held.Rows rows) = true
is_rows _ = false

-- a value that is held as such is lent: own profile
abbrev pub is_value : Held → Bool
is_value (held.Value value) = true
is_value _ = false

-- what a profile lends: own profile
abbrev pub held_of_profile : ProfileHeld → Held
held_of_profile (lent.Value value) = held.Value value
held_of_profile (lent.Number number) = held.Number number
held_of_profile (lent.Rows rows) = held.Rows rows
