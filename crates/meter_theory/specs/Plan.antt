-- A plan: the clients, the objects with what is fixed of each, and the rights of the clients.
use Rattle.std.specs.Prelude.{◌≡◌, ℕ, ◌==◌, Bool, false, cond, List, [], ◌∷◌, ◌++◌, Option, Some, None, find, flat_map, length, map, option_map, option_and_then}
use Rattle.std.specs.List.{list_any, position_from}
use Rattle.std.specs.Str.{bytes_eq}
use Rattle.cosem_data.specs.Tree.{Tree, null_data, array, no_trees}
use Rattle.cosem_data.specs.Kinds.{kind_of}
use Rattle.cosem_data.specs.Cells.{same_name, cell, same_cell}
use Rattle.cosem_data.specs.declared.kind.Kind.{Kind}
use Rattle.cosem_data.specs.declared.kind.Kind.TheVariants.{Array, Structure, DoubleLongUnsigned}
use Rattle.cosem_data.specs.declared.name.LogicalName.{LogicalName}
use Rattle.cosem_data.specs.declared.cell.CellRef.{CellRef}
use Rattle.cosem_data.specs.declared.cell.MethodRef.{MethodRef}
use Rattle.meter_theory.specs.declared.refs.Interface.{Interface}
use Rattle.meter_theory.specs.declared.refs.ScalerUnit.{ScalerUnit}
use Rattle.meter_theory.specs.declared.refs.ScriptRef.{ScriptRef}
use Rattle.meter_theory.specs.declared.refs.UpDown.{UpDown}
use Rattle.meter_theory.specs.Lists.{IsIn, for_some}
use Rattle.meter_theory.specs.Menus.{Choice, alternatives, has_menu, capture_objects_value, script_ref_value}
use Rattle.meter_theory.specs.Times.{Moment, first_moment, clock_value}
use Rattle.meter_theory.specs.Value.{counter, Rule, OfKind, Thresholds, ExecutionTimes, ClockTime, OneOf}
use Rattle.meter_theory.specs.State.{State, value, keys}

-- a client: its name, its service access point and its password
pub record Client : Type 0 where
  pub name : List ℕ
  pub sap : ℕ
  pub password : Option (List ℕ)

-- one action of a script (Script table, action_specification); the parameter of a method is null-data where there is none
pub data Action : Type 0 where
  Write : CellRef → Tree → Action
  Invoke : MethodRef → (parameter : Tree) → Action

pub record Script : Type 0 where
  pub id : ℕ
  pub actions : List Action

-- What is fixed of an object, and the start values of its cells.
pub data Part : Type 0 where
  Data1 : (start : Tree) → Part
  Register : (start default : Tree) → ScalerUnit → Part
  ProfileGeneric : (captured : Choice (List CellRef)) → (period entries : ℕ) → Part
  Clock : (start : Moment) → Part
  ScriptTable : List Script → Part
  RegisterMonitor : (monitored : CellRef) → (thresholds : Tree) → List UpDown → Part
  SingleActionSchedule : (script : Choice ScriptRef) → (type : ℕ) → (times : Tree) → Part

-- an object; inputs from outside go to the value of one that is fed
pub record Object : Type 0 where
  pub name : LogicalName
  pub fed : Bool
  pub part : Part

-- what a client may do with an object
pub record Right : Type 0 where
  pub client : ℕ
  pub object : LogicalName
  pub gets : List ℕ
  pub sets : List ℕ
  pub acts : List ℕ

pub record Plan : Type 0 where
  -- 1 or 2: that of the configuration, since which a line may be a tick of the clock (own profile)
  pub version : ℕ
  -- clients are named by their places, from 0
  pub clients : List Client
  pub objects : List Object
  pub rights : List Right

-- the place of the client with this name
abbrev pub client_named : Plan → List ℕ → Option ℕ
client_named P name = position_from (λ c. bytes_eq c.name name) 0 P.clients

-- Interface classes (IEC 62056-6-2)

abbrev pub class_of : Part → ℕ
class_of (Data1 start) = 1
class_of (Register start default scaler_unit) = 3
class_of (ProfileGeneric captured period entries) = 7
class_of (Clock start) = 8
class_of (ScriptTable scripts) = 9
class_of (RegisterMonitor monitored thresholds actions) = 21
class_of (SingleActionSchedule script type times) = 22

abbrev pub interface_of : Part → Interface
interface_of (Data1 start) = record { class_id = 1; version = 0; attributes = 2; methods = 0 }
interface_of (Register start default scaler_unit) = record { class_id = 3; version = 0; attributes = 3; methods = 1 }
interface_of (ProfileGeneric captured period entries) = record { class_id = 7; version = 1; attributes = 8; methods = 2 }
interface_of (Clock start) = record { class_id = 8; version = 0; attributes = 9; methods = 6 }
interface_of (ScriptTable scripts) = record { class_id = 9; version = 0; attributes = 2; methods = 1 }
interface_of (RegisterMonitor monitored thresholds actions) = record { class_id = 21; version = 0; attributes = 4; methods = 0 }
interface_of (SingleActionSchedule script type times) = record { class_id = 22; version = 0; attributes = 4; methods = 0 }

-- Association LN, version 0
abbrev pub association : Interface
association = record { class_id = 15; version = 0; attributes = 8; methods = 4 }

-- the current association, 0.0.40.0.0.255
abbrev pub association_name : LogicalName
association_name = record { 0 = 0 ∷ 0 ∷ 40 ∷ 0 ∷ 0 ∷ 255 ∷ [] }

-- the object with this name
abbrev pub object_at : Plan → LogicalName → Option Object
object_at P n = find (λ o. same_name o.name n) P.objects

-- the interface class of what stands at this name: the current association, or an object of the plan
abbrev pub interface_at : Plan → LogicalName → Option Interface
interface_at P n = cond (same_name n association_name) (Some association) (option_map (λ o. interface_of o.part) (object_at P n))

-- Cells: the attributes that can change

abbrev pub data_value : LogicalName → CellRef
data_value n = cell 1 n 2

abbrev pub register_value : LogicalName → CellRef
register_value n = cell 3 n 2

abbrev pub buffer : LogicalName → CellRef
buffer n = cell 7 n 2

-- a cell where the profile has a menu of them
abbrev pub capture_objects : LogicalName → CellRef
capture_objects n = cell 7 n 3

abbrev pub capture_period : LogicalName → CellRef
capture_period n = cell 7 n 4

abbrev pub entries_in_use : LogicalName → CellRef
entries_in_use n = cell 7 n 7

abbrev pub clock_time : LogicalName → CellRef
clock_time n = cell 8 n 2

abbrev pub thresholds : LogicalName → CellRef
thresholds n = cell 21 n 2

-- the inner cell of a register monitor: the monitored value at its last evaluation (own profile)
abbrev pub seen : LogicalName → CellRef
seen n = cell 21 n 0

-- a cell where the schedule has a menu of scripts
abbrev pub executed_script : LogicalName → CellRef
executed_script n = cell 22 n 2

abbrev pub execution_time : LogicalName → CellRef
execution_time n = cell 22 n 4

-- the cell of an attribute that has a menu, with its start value
abbrev pub start_of_choice : {A : Type 0} → CellRef → (A → Tree) → Choice A → State
start_of_choice x value_of c = cond (has_menu c) ((x, value_of c.configured) ∷ []) []

-- the cells of an object, with their start values
abbrev pub start_of : LogicalName → Part → State
start_of n (Data1 start) = (data_value n, start) ∷ []
start_of n (Register start default scaler_unit) = (register_value n, start) ∷ []
start_of n (ProfileGeneric captured period entries) =
    (buffer n, array no_trees)
    ∷ start_of_choice (capture_objects n) capture_objects_value captured
    ++ (capture_period n, counter period) ∷ (entries_in_use n, counter 0) ∷ []
start_of n (Clock first) = (clock_time n, clock_value first) ∷ []
start_of n (ScriptTable scripts) = []
start_of n (RegisterMonitor monitored th actions) = (thresholds n, th) ∷ (seen n, null_data) ∷ []
start_of n (SingleActionSchedule script type times) =
    start_of_choice (executed_script n) script_ref_value script ++ (execution_time n, times) ∷ []

-- the configured values, seen null-data (own profile), the buffers empty
abbrev pub start_values : Plan → State
start_values P = flat_map (λ o. start_of o.name o.part) P.objects

-- the cells of the plan, in plan order
abbrev pub cells : Plan → List CellRef
cells P = keys (start_values P)

-- an object of the part has a menu
abbrev pub part_has_menu : Part → Bool
part_has_menu (ProfileGeneric captured period entries) = has_menu captured
part_has_menu (SingleActionSchedule script type times) = has_menu script
part_has_menu _ = false

-- no object of the plan has one
abbrev pub HasNoMenus : Plan → Type 0
HasNoMenus P = (o : Object) → IsIn P.objects o → part_has_menu o.part ≡ false

-- The clock

-- the clock of the plan, which has one at most
abbrev pub clock_object : Plan → Option Object
clock_object P = find (λ o. class_of o.part == 8) P.objects

-- The inner clock of a meter whose plan has none: a cell that no service, label or text names, since its name has no bytes
-- (own profile).
abbrev pub inner_clock : CellRef
inner_clock = cell 8 (record { 0 = [] }) 0

-- the time of the clock, if the plan has one
abbrev pub told_clock : Plan → List CellRef
told_clock P = for_some (clock_object P) (λ o. clock_time o.name ∷ [])

abbrev pub clock_cell : Option Object → CellRef
clock_cell None = inner_clock
clock_cell (Some o) = clock_time o.name

-- the cell that says at which moment the meter's clock stands
abbrev pub clock : Plan → CellRef
clock P = clock_cell (clock_object P)

abbrev pub inner_start : Option Object → State
inner_start None = (inner_clock, clock_value first_moment) ∷ []
inner_start (Some o) = []

-- The start values, and behind them the inner clock where the plan has no clock.
abbrev pub start : Plan → State
start P = start_values P ++ inner_start (clock_object P)

-- the cells of a meter's state: those of the plan, and the inner clock where the plan has no clock
abbrev pub held : Plan → List CellRef
held P = keys (start P)

abbrev pub is_cell : Plan → CellRef → Bool
is_cell P x = list_any (same_cell x) (cells P)

-- what an attribute with a menu may hold: a value of one of its alternatives
abbrev pub rule_of_choice : {A : Type 0} → Kind → (A → Tree) → Choice A → Option Rule
rule_of_choice kind value_of c = cond (has_menu c) (Some (OneOf kind (map value_of (alternatives c)))) None

-- what a settable cell may hold; none for what isn't settable
abbrev pub rule_in : Plan → Part → ℕ → Option Rule
rule_in P (Data1 start) index = cond (index == 2) (Some (OfKind (kind_of start))) None
rule_in P (Register start default scaler_unit) index = cond (index == 2) (Some (OfKind (kind_of start))) None
rule_in P (ProfileGeneric captured period entries) index =
    cond (index == 4) (Some (OfKind DoubleLongUnsigned))
    (cond (index == 3) (rule_of_choice Array capture_objects_value captured) None)
rule_in P (Clock first) index = cond (index == 2) (Some ClockTime) None
rule_in P (ScriptTable scripts) index = None
rule_in P (RegisterMonitor monitored th actions) index =
    cond (index == 2) (Some (Thresholds (length actions) (kind_of (value (start_values P) monitored)))) None
rule_in P (SingleActionSchedule script type times) index =
    cond (index == 4) (Some (ExecutionTimes type)) (cond (index == 2) (rule_of_choice Structure script_ref_value script) None)

abbrev pub rule_of : Plan → CellRef → Option Rule
rule_of P x = option_and_then (λ o. cond (class_of o.part == x.class_id) (rule_in P o.part x.index) None) (object_at P x.name)
