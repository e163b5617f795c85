-- A plan in which no fault of a configuration is left: whatever the reading of a configuration and the passes over it judge,
-- said of the plan alone. Not said is only what no plan has in it: the keys and the texts of a configuration, its policy and
-- its labels, the sort method of a profile and the data_index of a captured attribute. That a monitor has as many thresholds
-- as actions, all of the kind of what it monitors, and that the times of a schedule fit its type, is part of `starts`: the
-- rules of these cells ask for it.
use Rattle.std.specs.Prelude.{ℕ, ℤ, pos, negsuc, int_le, Bool, true, false, not, ◌&&◌, nat_lt, nat_le, List, [], ◌∷◌, length, map, Option, None, Some, is_some, ◌==◌, ◌≡◌, ◌⊎◌, ◌≤◌}
use Rattle.std.specs.Char.{is_ascii}
use Rattle.std.specs.List.{list_all}
use Rattle.cosem_data.specs.Tree.{Tree}
use Rattle.cosem_data.specs.Kinds.{kind_of, is_number_kind}
use Rattle.cosem_data.specs.Cells.{same_name, cell}
use Rattle.cosem_data.specs.declared.name.LogicalName.{LogicalName}
use Rattle.cosem_data.specs.declared.cell.CellRef.{CellRef}
use Rattle.cosem_data.specs.declared.cell.MethodRef.{MethodRef}
use Rattle.meter_theory.specs.declared.limits.TheConstants as limits
use Rattle.meter_theory.specs.declared.refs.ScriptRef.{ScriptRef}
use Rattle.meter_theory.specs.Lists.{IsIn, AreDistinct, some_passes}
use Rattle.meter_theory.specs.declared.classes.Class.TheVariants as classes
use Rattle.meter_theory.specs.Classes.{is_known, is_of_class, is_capturable, is_monitorable, may_be_fed}
use Rattle.meter_theory.specs.ClientNames.{may_be_named}
use Rattle.meter_theory.specs.Menus.{alternatives}
use Rattle.meter_theory.specs.Times.{IsMoment}
use Rattle.meter_theory.specs.Value.{Rule, OfKind, meets, is_within_limits}
use Rattle.meter_theory.specs.State.{value}
use Rattle.meter_theory.specs.Plan.{Plan, Client, Object, Right, Script, Action, Write, Invoke, Part, Register, ProfileGeneric, Clock, ScriptTable, RegisterMonitor, SingleActionSchedule, association_name, class_of, interface_of, object_at, cells, start, start_values, rule_of, entries_in_use, clock_object, HasNoMenus}
use Rattle.meter_theory.specs.Rights.{knows_script}
use Rattle.meter_theory.specs.Edges.{scripts_named, captured_by}
use Rattle.meter_theory.specs.Steps.{scripts_of, Captures, captures_in}

-- the cell may be written, and the value meets its rule
pub record IsWrite (P : Plan) (x : CellRef) (v : Tree) : Type 0 where
  pub cell : IsIn (cells P) x
  pub rule : Rule
  pub settable : rule_of P x ≡ Some rule
  pub fits : meets rule v ≡ true

-- what a capture can find: a settable cell, or a profile's entries in use
abbrev pub IsCapturable : Plan → CellRef → Type 0
IsCapturable P x =
    ((rule : Rule) × (rule_of P x ≡ Some rule))
    ⊎ ((o : Object) × IsIn P.objects o × (c : Captures) × (captures_in o.part ≡ Some c) × (x ≡ entries_in_use o.name))

-- what is asked of one object: a register's default may stand in its value, a clock starts at a moment, and a monitored value keeps
-- its kind
abbrev pub IsSoundPart : Plan → Part → Type 0
IsSoundPart P (Register first default scaler_unit) = meets (OfKind (kind_of first)) default ≡ true
IsSoundPart P (Clock first) = IsMoment first
IsSoundPart P (RegisterMonitor monitored th actions) =
    IsIn (cells P) monitored × (rule_of P monitored ≡ Some (OfKind (kind_of (value (start_values P) monitored))))
IsSoundPart P _ = Unit {0}

-- a logical name has six bytes
abbrev pub is_name : LogicalName → Bool
is_name n = length n.0 == 6

abbrev pub has_action_sizes : Action → Bool
has_action_sizes (Write x v) = is_name x.name && is_within_limits v
has_action_sizes (Invoke m parameter) = is_name m.name && is_within_limits parameter

abbrev pub has_script_sizes : Script → Bool
has_script_sizes s = nat_le (length s.actions) limits.ACTIONS && list_all has_action_sizes s.actions

abbrev pub has_capture_sizes : List CellRef → Bool
has_capture_sizes captured = nat_le (length captured) limits.CAPTURE_OBJECTS && list_all (λ x. is_name x.name) captured

-- as many parts as the limits allow (own profile), and names of six bytes
abbrev pub has_part_sizes : Part → Bool
has_part_sizes (ProfileGeneric captured period entries) =
    nat_le (length captured.menu) limits.MENU
    && (list_all has_capture_sizes (alternatives captured) && (nat_le 1 entries && nat_le entries limits.PROFILE_ENTRIES))
has_part_sizes (ScriptTable scripts) = nat_le (length scripts) limits.SCRIPTS && list_all has_script_sizes scripts
has_part_sizes (RegisterMonitor monitored th actions) =
    is_name monitored.name
    && (nat_le (length actions) limits.THRESHOLDS && list_all (λ a. is_name a.up.table && is_name a.down.table) actions)
has_part_sizes (SingleActionSchedule script type times) =
    nat_le (length script.menu) limits.MENU && list_all (λ r. is_name r.table) (alternatives script)
has_part_sizes _ = true

abbrev pub has_sizes : Object → Bool
has_sizes o = is_name o.name && has_part_sizes o.part

-- the scripts that an object may have run: those of a monitor's actions, and the alternatives of a schedule
abbrev pub scripts_run_by : Part → List ScriptRef
scripts_run_by (RegisterMonitor monitored th actions) = scripts_named actions
scripts_run_by (SingleActionSchedule script type times) = alternatives script
scripts_run_by _ = []

-- a script table of the plan has this script; each has the null script, 0
abbrev pub has_script : Plan → ScriptRef → Bool
has_script P r = some_passes (λ o. (class_of o.part == 9) && knows_script (scripts_of o.part) r.script) (object_at P r.table)

-- indexes from 1 to the highest of a class
abbrev pub are_indexes : ℕ → List ℕ → Bool
are_indexes highest indexes = list_all (λ index. nat_le 1 index && nat_le index highest) indexes

-- the highest method that may be granted and that a script may call: those of a clock never are (own profile)
abbrev pub highest_method : Part → ℕ
highest_method (Clock start) = 0
highest_method part = (interface_of part).methods

-- an object of the plan has this method, and it doesn't execute scripts
abbrev pub has_plain_method : Plan → MethodRef → Bool
has_plain_method P m =
    some_passes (λ o. (class_of o.part == m.class_id) && (not (m.class_id == 9) && are_indexes (highest_method o.part) (m.index ∷ []))) (object_at P m.name)

-- a right is a client's of the plan, on an object of it, and of attributes and methods that this has
abbrev pub is_right : Plan → Right → Bool
is_right P r =
    nat_lt r.client (length P.clients)
    && some_passes (λ o. are_indexes (interface_of o.part).attributes r.gets && (are_indexes (interface_of o.part).attributes r.sets && are_indexes (highest_method o.part) r.acts)) (object_at P r.object)

-- what a right lets a client set are settable cells of its object
abbrev pub sets_cells : Plan → Right → Bool
sets_cells P r = some_passes (λ o. list_all (λ index. is_some (rule_of P (cell (class_of o.part) r.object index))) r.sets) (object_at P r.object)

-- a service access point is 1 to 127 (client_SAP, an integer)
abbrev pub has_sap : Client → Bool
has_sap client = nat_le 1 client.sap && nat_le client.sap 127

-- a password is 1 to 64 ASCII characters (own profile)
abbrev pub is_password : List ℕ → Bool
is_password text = (nat_le 1 (length text) && nat_le (length text) 64) && list_all is_ascii text

-- a client may be without a password
abbrev pub is_password_or_none : Option (List ℕ) → Bool
is_password_or_none None = true
is_password_or_none (Some text) = is_password text

-- the versions that there are (own profile)
abbrev pub is_version : ℕ → Bool
is_version version = nat_le 1 version && nat_le version 2

-- a scaler is an integer, and a unit an enum (Register, scaler_unit)
abbrev pub is_scaler : ℤ → Bool
is_scaler scaler = int_le (negsuc 127) scaler && int_le scaler (pos 127)

abbrev pub is_unit : ℕ → Bool
is_unit unit = nat_le unit 255

-- a period is a double-long-unsigned (Profile generic, capture_period)
abbrev pub is_period : ℕ → Bool
is_period period = nat_le period 4294967295

-- the number of a script is a long-unsigned (Script table, script_identifier)
abbrev pub is_script_number : ℕ → Bool
is_script_number number = nat_le number 65535

-- a type is 1 to 5 (Single action schedule, type)
abbrev pub is_schedule_type : ℕ → Bool
is_schedule_type type = nat_le 1 type && nat_le type 5

-- the numbers that a part fixes keep to their ranges
abbrev pub has_ranges : Part → Bool
has_ranges (Register first default scaler_unit) = is_scaler scaler_unit.scaler && is_unit scaler_unit.unit
has_ranges (ProfileGeneric captured period entries) = is_period period
has_ranges (ScriptTable scripts) = list_all (λ s. is_script_number s.id) scripts
has_ranges (SingleActionSchedule script type times) = is_schedule_type type
has_ranges _ = true

-- what counts and what is monitored are numbers: the value of a register, and the value that a monitor monitors, which is one
-- of Data or of a register (own profile)
abbrev pub has_numbers : Plan → Part → Bool
has_numbers P (Register first default scaler_unit) = is_number_kind (kind_of first)
has_numbers P (RegisterMonitor monitored th actions) =
    is_monitorable monitored.class_id monitored.index && is_number_kind (kind_of (value (start_values P) monitored))
has_numbers P _ = true

-- no alternative of a menu is what is configured, or an earlier one (own profile)
abbrev pub HasOwnAlternatives : Part → Type 0
HasOwnAlternatives (ProfileGeneric captured period entries) = AreDistinct (alternatives captured)
HasOwnAlternatives (SingleActionSchedule script type times) = AreDistinct (alternatives script)
HasOwnAlternatives _ = Unit {0}

-- an object is of the class of clocks
abbrev pub IsClock : Object → Type 0
IsClock o = is_of_class (class_of o.part) classes.Clock ≡ true

-- One clock at most, which isn't fed, and none in a plan of version 1 (own profile).
pub record HasAtMostOneClock (P : Plan) : Type 0 where
  pub one : (o p : Object) → IsIn P.objects o → IsIn P.objects p → IsClock o → IsClock p → o ≡ p
  pub fed : (o : Object) → IsIn P.objects o → IsClock o → o.fed ≡ false
  pub since : P.version ≡ 1 → clock_object P ≡ None

-- the value may stand in a cell with this rule, where there is one
abbrev pub fits_some : Option Rule → Tree → Bool
fits_some None v = true
fits_some (Some rule) v = meets rule v

pub record IsSound (P : Plan) : Type 0 where
  pub version : is_version P.version ≡ true
  -- each object has a name of its own
  pub names : AreDistinct (map (λ o. o.name) P.objects)
  -- and none has that of the current association
  pub apart : (o : Object) → IsIn P.objects o → same_name o.name association_name ≡ false
  -- each is of a class that the version knows
  pub classes : (o : Object) → IsIn P.objects o → is_known P.version (class_of o.part) ≡ true
  -- the limits on numbers of clients, objects and parts
  pub few_clients : length P.clients ≤ limits.CLIENTS
  pub few_objects : length P.objects ≤ limits.OBJECTS
  pub sizes : (o : Object) → IsIn P.objects o → has_sizes o ≡ true
  pub ranges : (o : Object) → IsIn P.objects o → has_ranges o.part ≡ true
  -- each client has a service access point of its own, and a name of its own, which a client may have
  pub saps : (client : Client) → IsIn P.clients client → has_sap client ≡ true
  pub saps_apart : AreDistinct (map (λ client. client.sap) P.clients)
  pub client_names : (client : Client) → IsIn P.clients client → may_be_named P.version client.name ≡ true
  pub clients_apart : AreDistinct (map (λ client. client.name) P.clients)
  pub passwords : (client : Client) → IsIn P.clients client → is_password_or_none client.password ≡ true
  -- each right is a client's of the plan, on what an object of it has, and one to set is on settable cells
  pub rights : (r : Right) → IsIn P.rights r → is_right P r ≡ true
  pub sets : (r : Right) → IsIn P.rights r → sets_cells P r ≡ true
  -- what is fed has a value to which inputs from outside may go
  pub inputs : (o : Object) → IsIn P.objects o → o.fed ≡ true → may_be_fed (class_of o.part) ≡ true
  -- each settable cell starts with a value that meets its rule
  pub starts : (x : CellRef) → IsIn (cells P) x → fits_some (rule_of P x) (value (start_values P) x) ≡ true
  pub numbers : (o : Object) → IsIn P.objects o → has_numbers P o.part ≡ true
  -- scripts write settable cells, with values that meet their rules
  pub writes : (o : Object) → IsIn P.objects o → (script : Script) → IsIn (scripts_of o.part) script →
      (x : CellRef) (v : Tree) → IsIn script.actions (Write x v) → IsWrite P x v
  -- they call methods that are there, and execute no scripts
  pub calls : (o : Object) → IsIn P.objects o → (script : Script) → IsIn (scripts_of o.part) script →
      (m : MethodRef) (v : Tree) → IsIn script.actions (Invoke m v) → has_plain_method P m ≡ true
  -- the scripts of a table have numbers of their own, none that of the null script
  pub scripts : (o : Object) → IsIn P.objects o → AreDistinct (0 ∷ map (λ s. s.id) (scripts_of o.part))
  -- what monitors and schedules have run is there
  pub references : (o : Object) → IsIn P.objects o → (r : ScriptRef) → IsIn (scripts_run_by o.part) r → has_script P r ≡ true
  -- profiles capture cells of the plan, and no buffer
  pub captures : (o : Object) → IsIn P.objects o → (c : Captures) → captures_in o.part ≡ Some c →
      (x : CellRef) → IsIn (captured_by c.captured) x → IsIn (cells P) x × IsCapturable P x
  -- each of them an attribute that a profile may capture, as none is that may have a menu
  pub capturable : (o : Object) → IsIn P.objects o → (c : Captures) → captures_in o.part ≡ Some c →
      (x : CellRef) → IsIn (captured_by c.captured) x → is_capturable x.class_id x.index ≡ true
  pub parts : (o : Object) → IsIn P.objects o → IsSoundPart P o.part
  -- menus, of which version 1 has none
  pub alternatives : (o : Object) → IsIn P.objects o → HasOwnAlternatives o.part
  pub menus_since : P.version ≡ 1 → HasNoMenus P
  pub one_clock : HasAtMostOneClock P
