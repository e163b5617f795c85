-- What happens to a meter: effects, steps, the state after a step.
use Rattle.std.specs.Prelude.{ℕ, ◌+◌, ◌==◌, min, Bool, false, ◌&&◌, cond, List, [], ◌∷◌, ◌++◌, map, flat_map, find, Option, Some, None, ℤ, int_lt, int_le}
use Rattle.cosem_data.specs.Tree.{Tree, array, no_trees}
use Rattle.cosem_data.specs.Kinds.{number_of}
use Rattle.cosem_data.specs.declared.name.LogicalName.{LogicalName}
use Rattle.cosem_data.specs.declared.cell.CellRef.{CellRef}
use Rattle.cosem_data.specs.declared.cell.MethodRef.{MethodRef}
use Rattle.meter_theory.specs.Lists.{keep_last, for_some}
use Rattle.meter_theory.specs.Menus.{Choice, chosen, capture_objects_value, script_ref_value}
use Rattle.meter_theory.specs.Value.{array_of, structure_of, elements, counter, count_of, Rule, meets}
use Rattle.meter_theory.specs.Times.{Moment, is_moment, next_second, clock_moment, clock_value, is_capture_due, is_schedule_due}
use Rattle.meter_theory.specs.State.{State, value, put}
use Rattle.meter_theory.specs.declared.refs.ScriptRef.{ScriptRef}
use Rattle.meter_theory.specs.declared.refs.UpDown.{UpDown}
use Rattle.meter_theory.specs.Plan.{Plan, Object, Part, Register, ProfileGeneric, ScriptTable, RegisterMonitor, SingleActionSchedule, Script, Action, Write, Invoke, class_of, object_at, rule_of, register_value, buffer, capture_objects, capture_period, entries_in_use, thresholds, seen, executed_script, execution_time, clock_object, inner_clock, clock}
use Rattle.meter_theory.specs.Access.{is_success}
use Rattle.meter_theory.specs.Rights.{Argument, Given, Descriptor, cell_of, method_of, Selection, set_answer, act_answer, script_number}

-- Effects

pub data Effect : Type 0 where
  -- the value goes into the cell; into a profile's capture_objects it goes as the buffer is emptied
  Put : CellRef → Tree → Effect
  -- a row of the captured values goes behind the buffer
  Capture : (profile : LogicalName) → Effect
  -- the buffer is emptied
  Clear : (profile : LogicalName) → Effect

-- what a capture looks up in the plan
pub record Captures : Type 0 where
  pub captured : Choice (List CellRef)
  pub entries : ℕ

abbrev pub captures_in : Part → Option Captures
captures_in (ProfileGeneric captured period entries) = Some (record { captured = captured; entries = entries })
captures_in _ = None

abbrev pub captures_of : Option Object → Option Captures
captures_of None = None
captures_of (Some o) = captures_in o.part

-- the cells that a profile captures in s: the alternative that its capture_objects holds
abbrev pub captured_in : State → LogicalName → Choice (List CellRef) → List CellRef
captured_in s n captured = chosen capture_objects_value captured (value s (capture_objects n))

-- the row that a capture in s takes
abbrev pub row_of : State → List CellRef → Tree
row_of s captured = structure_of (map (value s) captured)

-- the buffer after a capture: the last rows, as many as there is room for (sort_method fifo)
abbrev pub buffer_after : ℕ → Tree → Tree → Tree
buffer_after entries old row = array_of (keep_last entries (elements old ++ row ∷ []))

-- the entries in use after a capture
abbrev pub in_use_after : ℕ → Tree → Tree
in_use_after entries old = counter (min (count_of old + 1) entries)

-- method capture of a profile
abbrev pub capture : State → LogicalName → Option Captures → State
capture s n None = s
capture s n (Some c) =
    put (put s (buffer n) (buffer_after c.entries (value s (buffer n)) (row_of s (captured_in s n c.captured))))
    (entries_in_use n) (in_use_after c.entries (value s (entries_in_use n)))

-- method reset of a profile
abbrev pub clear : State → LogicalName → State
clear s n = put (put s (buffer n) (array no_trees)) (entries_in_use n) (counter 0)

-- what a cell keeps of a value that is put into it: a clock the moment, in its form, and any other cell the value
abbrev pub kept : CellRef → Tree → Tree
kept x v = cond (x.class_id == 8) (clock_value (clock_moment v)) v

-- a write of this cell empties a buffer: it is a profile's capture_objects, and the rows are of what was captured before
-- (IEC 62056-6-2, Profile generic)
abbrev pub empties : CellRef → Bool
empties x = (x.class_id == 7) && (x.index == 3)

-- the state after a write
abbrev pub write : State → CellRef → Tree → State
write s x v = put (cond (empties x) (clear s x.name) s) x (kept x v)

-- the state after one effect
abbrev pub effect : Plan → State → Effect → State
effect P s (Put x v) = write s x v
effect P s (Capture n) = capture s n (captures_of (object_at P n))
effect P s (Clear n) = clear s n

-- the state after effects, one after another
abbrev pub effects : Plan → State → List Effect → State
effects P s [] = s
effects P s (e ∷ es) = effects P (effect P s e) es

-- the cells that a write changes
abbrev pub changed_by_write : CellRef → List CellRef
changed_by_write x = x ∷ cond (empties x) (buffer x.name ∷ entries_in_use x.name ∷ []) []

-- the cells that an effect changes, and those that a list of effects changes
abbrev pub changed_by : Effect → List CellRef
changed_by (Put x v) = changed_by_write x
changed_by (Capture n) = buffer n ∷ entries_in_use n ∷ []
changed_by (Clear n) = buffer n ∷ entries_in_use n ∷ []

abbrev pub changed : List Effect → List CellRef
changed es = flat_map changed_by es

-- Methods and scripts

-- reset of a register or a profile, or capture; n is the object's name
abbrev pub plain_method : LogicalName → Part → ℕ → List Effect
plain_method n (Register start default scaler_unit) index = Put (register_value n) default ∷ []
plain_method n (ProfileGeneric captured period entries) index = cond (index == 1) (Clear n ∷ []) (Capture n ∷ [])
plain_method n _ index = []

abbrev pub plain_method_of : Plan → MethodRef → List Effect
plain_method_of P m = for_some (object_at P m.name) (λ o. plain_method m.name o.part m.index)

abbrev pub action_effects : Plan → Action → List Effect
action_effects P (Write x v) = Put x v ∷ []
action_effects P (Invoke m parameter) = plain_method_of P m

-- the effects of a script's actions, in order
abbrev pub actions_effects : Plan → List Action → List Effect
actions_effects P actions = flat_map (action_effects P) actions

-- the script of a table with this number; the null script has no effects
abbrev pub script_in : Plan → List Script → ℕ → List Effect
script_in P scripts id = for_some (find (λ s. s.id == id) scripts) (λ s. actions_effects P s.actions)

abbrev pub scripts_of : Part → List Script
scripts_of (ScriptTable scripts) = scripts
scripts_of _ = []

abbrev pub effects_of_script : Plan → ScriptRef → List Effect
effects_of_script P r = for_some (object_at P r.table) (λ o. script_in P (scripts_of o.part) r.script)

-- reset, capture or execute
abbrev pub method_in : Plan → MethodRef → Part → Option ℕ → List Effect
method_in P m (ScriptTable scripts) (Some id) = script_in P scripts id
method_in P m (ScriptTable scripts) None = []
method_in P m part id = plain_method m.name part m.index

abbrev pub method_effects : Plan → MethodRef → Argument → List Effect
method_effects P m argument = for_some (object_at P m.name) (λ o. method_in P m o.part (script_number argument))

-- The guards

-- A threshold splits the numbers at `v ≥ th` (the side of equality is own profile). Up: seen lies below it and now
-- doesn't. Down: the other way. None where one of them is no number, as seen before the first evaluation.
abbrev pub due_at : UpDown → Option ℤ → Option ℤ → Option ℤ → List ScriptRef
due_at action (Some th) (Some before) (Some now) =
    cond (int_lt before th && int_le th now) (action.up ∷ [])
    (cond (int_le th before && int_lt now th) (action.down ∷ []) [])
due_at action _ _ _ = []

-- The due scripts, in the order of the thresholds, all judged before any script runs (own profile).
abbrev pub due_scripts : List UpDown → List Tree → Tree → Tree → List ScriptRef
due_scripts [] ths before now = []
due_scripts (action ∷ actions) [] before now = []
due_scripts (action ∷ actions) (th ∷ ths) before now =
    due_at action (number_of th) (number_of before) (number_of now) ++ due_scripts actions ths before now

-- Steps

pub data Step : Type 0 where
  Get : (client : ℕ) → Descriptor → Option Selection → Step
  Set : (client : ℕ) → Descriptor → (selected : Bool) → Argument → Step
  Act : (client : ℕ) → Descriptor → Argument → Step
  Input : CellRef → Tree → Step
  CaptureAt : (profile : LogicalName) → Step
  Evaluate : (monitor : LogicalName) → Step
  ScheduleAt : (schedule : LogicalName) → Step
  Tick : Step
  ClockAt : Moment → Step

-- whose step it is; the meter's own have no client
abbrev pub client_of : Step → Option ℕ
client_of (Get c d selection) = Some c
client_of (Set c d selected v) = Some c
client_of (Act c d argument) = Some c
client_of (Input x v) = None
client_of (CaptureAt n) = None
client_of (Evaluate n) = None
client_of (ScheduleAt n) = None
client_of Tick = None
client_of (ClockAt t) = None

abbrev pub given_value : CellRef → Argument → List Effect
given_value x (Given v) = Put x v ∷ []
given_value x _ = []

-- the cell is the value of a fed object
abbrev pub is_fed_in : CellRef → Option Object → Bool
is_fed_in x None = false
is_fed_in x (Some o) = o.fed && ((class_of o.part == x.class_id) && (x.index == 2))

abbrev pub is_fed : Plan → CellRef → Bool
is_fed P x = is_fed_in x (object_at P x.name)

abbrev pub meets_some : Option Rule → Tree → Bool
meets_some None v = false
meets_some (Some rule) v = meets rule v

-- the moment at which the meter's clock stands
abbrev pub present : Plan → State → Moment
present P s = clock_moment (value s (clock P))

-- A profile at a moment, a monitor, a schedule at a moment. n is the object's name, and s the state before.
abbrev pub captured_at : State → LogicalName → Moment → Part → List Effect
captured_at s n t (ProfileGeneric captured period entries) =
    cond (is_capture_due (count_of (value s (capture_period n))) t) (Capture n ∷ []) []
captured_at s n t _ = []

abbrev pub evaluated : Plan → State → LogicalName → Part → List Effect
evaluated P s n (RegisterMonitor monitored th actions) =
    flat_map (effects_of_script P) (due_scripts actions (elements (value s (thresholds n))) (value s (seen n)) (value s monitored))
    ++ Put (seen n) (value s monitored) ∷ []
evaluated P s n _ = []

-- the script that a schedule runs in s: the alternative that its executed_script holds
abbrev pub script_now : State → LogicalName → Choice ScriptRef → ScriptRef
script_now s n script = chosen script_ref_value script (value s (executed_script n))

abbrev pub scheduled_at : Plan → State → LogicalName → Moment → Part → List Effect
scheduled_at P s n t (SingleActionSchedule script type times) =
    cond (is_schedule_due (elements (value s (execution_time n))) t) (effects_of_script P (script_now s n script)) []
scheduled_at P s n t _ = []

-- the clock goes on by a second
abbrev pub ticked : Plan → State → List Effect
ticked P s = Put (clock P) (clock_value (next_second (present P s))) ∷ []

-- the inner clock is set to a moment that the calendar has; a plan's clock is set by nobody but those who may write it
abbrev pub clock_set : Option Object → Moment → List Effect
clock_set None t = cond (is_moment t) (Put inner_clock (clock_value t) ∷ []) []
clock_set (Some o) t = []

-- The effects of a step, in order. All guards are judged in the state before the step; a step that names no object of
-- its kind has none.
abbrev pub effects_of : Plan → State → Step → List Effect
effects_of P s (Get c d selection) = []
effects_of P s (Set c d selected v) = cond (is_success (set_answer P c d selected v)) (given_value (cell_of d) v) []
effects_of P s (Act c d argument) = cond (is_success (act_answer P c d argument)) (method_effects P (method_of d) argument) []
effects_of P s (Input x v) = cond (is_fed P x && meets_some (rule_of P x) v) (Put x v ∷ []) []
effects_of P s (CaptureAt n) = for_some (object_at P n) (λ o. captured_at s n (present P s) o.part)
effects_of P s (Evaluate n) = for_some (object_at P n) (λ o. evaluated P s n o.part)
effects_of P s (ScheduleAt n) = for_some (object_at P n) (λ o. scheduled_at P s n (present P s) o.part)
effects_of P s Tick = ticked P s
effects_of P s (ClockAt t) = clock_set (clock_object P) t

-- The state after a step.
abbrev pub next : Plan → State → Step → State
next P s step = effects P s (effects_of P s step)
