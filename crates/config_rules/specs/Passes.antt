-- What can be wrong with what the tables of a configuration say (own profile): one pass a code, each over the whole
-- configuration in the order of its text, and run only where the passes before it found nothing. A pass finds every fault of
-- its code, but none that merely follows from another one.
use Rattle.std.specs.Prelude.{ℕ, ℤ, pos, ◌==◌, nat_lt, int_le, Bool, true, false, not, ◌&&◌, ◌||◌, List, [], ◌∷◌, ◌++◌, length, codes, if◌then◌else◌, Option, Some, None, is_some, option_and_then, Result, ⊤}
use Rattle.std.specs.List.{list_any}
use Rattle.std.specs.Str.{bytes_eq}
use Rattle.cosem_data.specs.Tree.{Tree}
use Rattle.cosem_data.specs.declared.kind.Kind.{Kind}
use Rattle.meter_theory.specs.Classes.{is_known, is_of_class, has_attribute, has_method, is_cell, is_settable, is_capturable, is_monitorable, may_be_fed}
use Rattle.meter_theory.specs.declared.classes.Class.TheVariants as classes
use Rattle.meter_theory.specs.ClientNames.{may_be_named}
use Rattle.meter_theory.specs.Value.{is_within_limits, elements}
use Rattle.meter_theory.specs.Times.{are_execution_times}
use Rattle.meter_theory.specs.declared.limits.TheConstants as limits
use Rattle.civil_moment.specs.MomentText.{moment_in}
use Rattle.config_text.specs.Fault.{Fault, fault_where, first_found, first_of}
use Rattle.config_text.specs.declared.cause.Cause.{Cause}
use Rattle.config_text.specs.declared.cause.Cause.TheVariants.{LogicalForm, ClientForm, ObjectTwice, Association, ClassUnknown, ClientUnknown, ClientTwice, SapTwice, NoObject, NoScriptTable, NoScript, Index, Value, Moment, ExecutionTime, NoNumber, NotSettable, Counts, ScriptZero, ScriptTwice, Execute, Limit, NoCell, LabelTwice, Fed, Times, SortMethod, DataIndex, SecondClock, AlternativeTwice}
use Rattle.config_text.specs.declared.cause.Limit as limit_kinds
use Rattle.config_text.specs.declared.cause.Limit.TheVariants as of
use Rattle.config_text.specs.declared.cause.Use as uses
use Rattle.config_text.specs.declared.cause.Use.TheVariants.{Attribute, Method, Settable, Capturable, Monitorable}
use Rattle.config_text.specs.declared.service.Service.{Service}
use Rattle.config_text.specs.declared.service.Service.TheVariants.{Write, Invoke}
use Rattle.config_text.specs.Parts.{Text, ClientText, ObjectText, TargetText, CaptureText, ScriptRefText, ActionText, ScriptText, RightText, SetsText, LabelText, ConfigText, BodyText, DataText, RegisterText, ProfileText, ClockText, ScriptTableText, MonitorText, ScheduleText}
use Rattle.config_rules.specs.Names.{object_named, has_client, class_named, scripts_in, target_is, menu_in, passes_or_chosen}
use Rattle.value_text.specs.Texts.{name_in, value_in}
use Rattle.config_rules.specs.Values.{kind_in, kind_named, is_of_kind, is_number, may_be_number, number_kind, is_time_text}
use Rattle.config_rules.specs.PlanOf.{thresholds_value, times_value}
use Rattle.config_rules.specs.Walks.{Judge, each, each_new, each_action, each_capture, references}
use Rattle.config_rules.specs.Written.{may_stand_at, written_cause}

-- faults were found
abbrev pub are_found : List Fault → Bool
are_found [] = false
are_found (fault ∷ faults) = true

-- the clients and the names of sets of clients
abbrev pub both_sets : Judge Text → Judge SetsText
both_sets judge at s = each judge (at ++ codes ".influence") s.influence ++ each judge (at ++ codes ".learn") s.learn

-- C4 Names of bad form

abbrev pub logical_form : Judge Text
logical_form at name = fault_where LogicalForm at (not (is_some (name_in name)))

-- a client's name that may stand in a configuration of this version
abbrev pub client_form : ℕ → Judge Text
client_form version at name = fault_where (ClientForm version) at (not (may_be_named version name))

unfoldable pub object_forms : Judge ObjectText
object_forms at o =
    logical_form (at ++ codes ".name") o.name
    ++ references (λ at t. logical_form (at ++ codes ".object") t.object) (λ at r. logical_form (at ++ codes ".table") r.table) at o.body

unfoldable pub right_forms : ℕ → Judge RightText
right_forms version at r = client_form version (at ++ codes ".client") r.client ++ logical_form (at ++ codes ".object") r.object

unfoldable pub label_forms : ℕ → Judge LabelText
label_forms version at l = logical_form (at ++ codes ".object") l.target.object ++ both_sets (client_form version) at l.sets

unfoldable pub forms : ConfigText → List Fault
forms c =
    each (λ at client. client_form c.version (at ++ codes ".name") client.name) (codes "client") c.clients
    ++ each object_forms (codes "object") c.objects
    ++ each (right_forms c.version) (codes "right") c.rights
    ++ both_sets (client_form c.version) (codes "policy") c.policy
    ++ each (label_forms c.version) (codes "label") c.labels

-- C5 A name of an object that an earlier one has, or the current association

abbrev pub object_cause : Text → Cause
object_cause name = if bytes_eq (codes "0.0.40.0.0.255") name then Association else ObjectTwice

abbrev pub new_object : List ObjectText → Judge ObjectText
new_object earlier at o =
    fault_where (object_cause o.name) (at ++ codes ".name")
    (bytes_eq (codes "0.0.40.0.0.255") o.name || list_any (λ e. bytes_eq e.name o.name) earlier)

unfoldable pub new_objects : ConfigText → List Fault
new_objects c = each_new new_object (codes "object") c.objects

-- C6 An interface class that isn't known in the configuration's version

unfoldable pub known_classes : ConfigText → List Fault
known_classes c = each (λ at o. fault_where (ClassUnknown c.version) (at ++ codes ".class") (not (is_known c.version o.class))) (codes "object") c.objects

-- C8 A client's name or service access point that an earlier one has

unfoldable pub new_client : List ClientText → Judge ClientText
new_client earlier at c =
    fault_where ClientTwice (at ++ codes ".name") (list_any (λ e. bytes_eq e.name c.name) earlier)
    ++ fault_where SapTwice (at ++ codes ".sap") (list_any (λ e. e.sap == c.sap) earlier)

unfoldable pub new_clients : ConfigText → List Fault
new_clients c = each_new new_client (codes "client") c.clients

-- C7 A client that isn't there; the cause tells whether C8, which is looked for later, finds faults too

abbrev pub known_client : Bool → ConfigText → Judge Text
known_client later c at name = fault_where (ClientUnknown later) at (not (has_client c name))

unfoldable pub known_clients_by : Bool → ConfigText → List Fault
known_clients_by later c =
    each (λ at r. known_client later c (at ++ codes ".client") r.client) (codes "right") c.rights
    ++ both_sets (known_client later c) (codes "policy") c.policy
    ++ each (λ at l. both_sets (known_client later c) at l.sets) (codes "label") c.labels

abbrev pub known_clients : ConfigText → List Fault
known_clients c = known_clients_by (are_found (new_clients c)) c

-- C14 A script with identifier 0, or with that of an earlier one of its table

abbrev pub script_cause : ℕ → Cause
script_cause id = if id == 0 then ScriptZero else ScriptTwice

abbrev pub new_script : List ScriptText → Judge ScriptText
new_script earlier at s = fault_where (script_cause s.id) (at ++ codes ".id") ((s.id == 0) || list_any (λ e. e.id == s.id) earlier)

unfoldable pub new_scripts : ConfigText → List Fault
new_scripts c = each (λ at o. each_new new_script (at ++ codes ".script") (scripts_in o.body)) (codes "object") c.objects

-- C9 A reference to no object, to a table that is no script table, or to a script that isn't there; script 0 is in every table.
-- A script is looked for only in a script table. The cause tells whether C14, which is looked for later, finds faults too

abbrev pub known_object : ConfigText → Judge Text
known_object c at name = fault_where NoObject (at ++ codes ".object") (not (is_some (object_named c name)))

abbrev pub has_script : List ScriptText → ℤ → Bool
has_script scripts (pos n) = (n == 0) || list_any (λ s. s.id == n) scripts
has_script scripts _ = false

abbrev pub scripts_of : Option ObjectText → List ScriptText
scripts_of None = []
scripts_of (Some o) = scripts_in o.body

unfoldable pub known_script : Bool → ConfigText → Judge ScriptRefText
known_script later c at r =
    first_found
    (
    fault_where NoScriptTable (at ++ codes ".table") (not (is_of_class (class_named c r.table) classes.ScriptTable))
    ∷ fault_where (NoScript later) (at ++ codes ".script") (not (has_script (scripts_of (object_named c r.table)) r.script))
    ∷ []
    )

unfoldable pub known_references_by : Bool → ConfigText → List Fault
known_references_by later c =
    each (λ at o. references (λ at t. known_object c at t.object) (known_script later c) at o.body) (codes "object") c.objects
    ++ each (λ at r. known_object c at r.object) (codes "right") c.rights
    ++ each (λ at l. known_object c at l.target.object) (codes "label") c.labels

abbrev pub known_references : ConfigText → List Fault
known_references c = known_references_by (are_found (new_scripts c)) c

-- C10 An index that the class doesn't have, or that isn't usable there

abbrev pub usable : ConfigText → uses.Use → (ℕ → ℕ → Bool) → Judge TargetText
usable c wanted test at t = fault_where (Index wanted (class_named c t.object)) (at ++ codes ".index") (not (target_is c test t))

abbrev pub usable_action : ConfigText → Service → Judge TargetText
usable_action c Write at t = fault_where (Index Settable (class_named c t.object)) (at ++ codes ".index") (not (passes_or_chosen c is_settable t.object t.index))
usable_action c Invoke at t = usable c Method has_method at t

unfoldable pub usable_indexes : ConfigText → Judge BodyText
usable_indexes c at (ProfileText captures period entries sort_method) =
    each_capture (λ at x. usable c Capturable is_capturable at x.target) at captures
usable_indexes c at (ScriptTableText scripts) = each_action (λ at a. usable_action c a.service at a.target) at scripts
usable_indexes c at (MonitorText monitored thresholds actions) = usable c Monitorable is_monitorable (at ++ codes ".monitored") monitored
usable_indexes c at _ = []

-- a right is on attributes and methods that the class has
abbrev pub right_index : uses.Use → (ℕ → ℕ → Bool) → ℕ → Judge ℕ
right_index wanted has class at index = fault_where (Index wanted class) at (not (has class index))

unfoldable pub right_indexes : ConfigText → Judge RightText
right_indexes c at r =
    each (right_index Attribute has_attribute (class_named c r.object)) (at ++ codes ".get") r.gets
    ++ each (right_index Attribute has_attribute (class_named c r.object)) (at ++ codes ".set") r.sets
    ++ each (right_index Method has_method (class_named c r.object)) (at ++ codes ".act") r.acts

unfoldable pub known_indexes : ConfigText → List Fault
known_indexes c =
    each (λ at o. usable_indexes c at o.body) (codes "object") c.objects
    ++ each (right_indexes c) (codes "right") c.rights

-- C11 A value that isn't hex, isn't one Data, or isn't of the kind, and a clock's time that is no moment

-- a value that may stand in the target
abbrev pub written_value : ConfigText → TargetText → Option Tree → Bool
written_value c t None = false
written_value c t (Some v) = may_stand_at c (object_named c t.object) t.index v

abbrev pub action_value : ConfigText → Service → TargetText → Option Text → Bool
action_value c Write t text = written_value c t (option_and_then value_in text)
action_value c Invoke t None = true
action_value c Invoke t (Some text) = is_some (value_in text)

-- a value of another kind than is asked, or one that breaks a rule of the attribute
abbrev pub action_cause : ConfigText → Service → TargetText → Option Text → Cause
action_cause c Write t text = written_cause (object_named c t.object) t.index (option_and_then value_in text)
action_cause c Invoke t text = Value None

abbrev pub valid_action_value : ConfigText → Judge ActionText
valid_action_value c at a = fault_where (action_cause c a.service a.target a.value) (at ++ codes ".value") (not (action_value c a.service a.target a.value))

-- a threshold over a value of a kind
abbrev pub threshold_value : Option Kind → Judge Text
threshold_value kind at text = fault_where (Value kind) at (not (is_of_kind kind (value_in text)))

unfoldable pub valid_values_in : ConfigText → Judge BodyText
valid_values_in c at (DataText value) = fault_where (Value None) (at ++ codes ".value") (not (is_some (value_in value)))
valid_values_in c at (RegisterText value default scaler unit) =
    fault_where (Value None) (at ++ codes ".value") (not (is_number (kind_in value)))
    ++ fault_where (Value (number_kind (kind_in value))) (at ++ codes ".default") (not (is_of_kind (number_kind (kind_in value)) (value_in default)))
valid_values_in c at (ClockText time) = fault_where Moment (at ++ codes ".time") (not (is_some (moment_in time)))
valid_values_in c at (ScriptTableText scripts) = each_action (valid_action_value c) at scripts
valid_values_in c at (MonitorText monitored thresholds actions) =
    fault_where NoNumber (at ++ codes ".monitored.index") (not (may_be_number (kind_named c monitored.object)))
    ++ each (threshold_value (number_kind (kind_named c monitored.object))) (at ++ codes ".thresholds") thresholds
valid_values_in c at (ScheduleText script type times) =
    each (λ at text. fault_where ExecutionTime at (not (is_time_text text))) (at ++ codes ".times") times
valid_values_in c at _ = []

unfoldable pub valid_values : ConfigText → List Fault
valid_values c = each (λ at o. valid_values_in c at o.body) (codes "object") c.objects

-- C12 A right to set what isn't a settable cell

abbrev pub settable_of : ConfigText → Judge RightText
settable_of c at r =
    each (λ at index. fault_where (NotSettable (class_named c r.object)) at (not (passes_or_chosen c is_settable r.object index)))
    (at ++ codes ".set") r.sets

unfoldable pub settable_rights : ConfigText → List Fault
settable_rights c = each (settable_of c) (codes "right") c.rights

-- C13 Thresholds and actions that differ in number

unfoldable pub equal_counts_in : Judge BodyText
equal_counts_in at (MonitorText monitored thresholds actions) =
    fault_where Counts (at ++ codes ".action") (not (length thresholds == length actions))
equal_counts_in at _ = []

unfoldable pub equal_counts : ConfigText → List Fault
equal_counts c = each (λ at o. equal_counts_in at o.body) (codes "object") c.objects

-- C15 An action that executes a script table

abbrev pub is_invoke : Service → Bool
is_invoke Write = false
is_invoke Invoke = true

abbrev pub executes : ConfigText → ActionText → Bool
executes c a = is_invoke a.service && is_of_class (class_named c a.target.object) classes.ScriptTable

abbrev pub no_execute : ConfigText → Judge ActionText
no_execute c at a = fault_where Execute (at ++ codes ".object") (executes c a)

unfoldable pub no_executes : ConfigText → List Fault
no_executes c = each (λ at o. each_action (no_execute c) at (scripts_in o.body)) (codes "object") c.objects

-- C16 More than a limit allows

abbrev pub at_most : {A : Type 0} → limit_kinds.Limit → ℕ → Judge (List A)
at_most what limit at xs = fault_where (Limit what) at (nat_lt limit (length xs))

abbrev pub is_small : Option Tree → Bool
is_small None = true
is_small (Some v) = is_within_limits v

abbrev pub small_value : Judge (Option Text)
small_value at text = fault_where (Limit of.Value) at (not (is_small (option_and_then value_in text)))

-- a menu has 1 to 8 alternatives beside what is configured
abbrev pub menu_size : {A : Type 0} → Judge (Option (List A))
menu_size at None = []
menu_size at (Some xs) = fault_where (Limit of.Alternatives) at (nat_lt (length xs) 1 || nat_lt limits.MENU (length xs))

unfoldable pub script_limits : Judge ScriptText
script_limits at s =
    at_most of.Actions limits.ACTIONS (at ++ codes ".action") s.actions
    ++ each (λ at a. small_value (at ++ codes ".value") a.value) (at ++ codes ".action") s.actions

unfoldable pub limits_in : Judge BodyText
limits_in at (DataText value) = small_value (at ++ codes ".value") (Some value)
limits_in at (RegisterText value default scaler unit) =
    small_value (at ++ codes ".value") (Some value) ++ small_value (at ++ codes ".default") (Some default)
limits_in at (ProfileText captures period entries sort_method) =
    at_most of.Captures limits.CAPTURE_OBJECTS (at ++ codes ".capture") captures.start
    ++ fault_where (Limit of.Entries) (at ++ codes ".entries") (nat_lt limits.PROFILE_ENTRIES entries)
    ++ menu_size (at ++ codes ".capture_menu") captures.menu
    ++ each (at_most of.Captures limits.CAPTURE_OBJECTS) (at ++ codes ".capture_menu") (menu_in captures)
limits_in at (ScriptTableText scripts) =
    at_most of.Scripts limits.SCRIPTS (at ++ codes ".script") scripts
    ++ each script_limits (at ++ codes ".script") scripts
limits_in at (MonitorText monitored thresholds actions) =
    fault_where (Limit of.Thresholds) (at ++ codes ".thresholds") (nat_lt limits.THRESHOLDS (length thresholds) || not (is_within_limits (thresholds_value thresholds)))
    ++ at_most of.MonitorActions limits.THRESHOLDS (at ++ codes ".action") actions
limits_in at (ScheduleText script type times) =
    fault_where (Limit of.Times) (at ++ codes ".times") (nat_lt limits.EXECUTION_TIMES (length times) || not (is_within_limits (times_value times)))
    ++ menu_size (at ++ codes ".script_menu") script.menu
limits_in at _ = []

unfoldable pub within_limits : ConfigText → List Fault
within_limits c =
    at_most of.Clients limits.CLIENTS (codes "client") c.clients
    ++ at_most of.Objects limits.OBJECTS (codes "object") c.objects
    ++ each (λ at o. limits_in at o.body) (codes "object") c.objects

-- C17 A label on what is no cell, or a second one for a cell

abbrev pub same_target : TargetText → TargetText → Bool
same_target s t = bytes_eq s.object t.object && (s.index == t.index)

-- a label may be on the attribute
abbrev pub may_be_labelled : ConfigText → TargetText → Bool
may_be_labelled c t = passes_or_chosen c is_cell t.object t.index

abbrev pub label_cause : ConfigText → TargetText → Cause
label_cause c t = if may_be_labelled c t then LabelTwice else NoCell (class_named c t.object)

abbrev pub new_label : ConfigText → List LabelText → Judge LabelText
new_label c earlier at l =
    fault_where (label_cause c l.target) (at ++ codes ".index") (not (may_be_labelled c l.target) || list_any (λ e. same_target e.target l.target) earlier)

unfoldable pub new_labels : ConfigText → List Fault
new_labels c = each_new (new_label c) (codes "label") c.labels

-- C18 An object is fed whose class has no value that can be

unfoldable pub fed_values : ConfigText → List Fault
fed_values c =
    each (λ at o. fault_where Fed (at ++ codes ".fed") (o.fed && not (may_be_fed o.class))) (codes "object") c.objects

-- C19 Execution times that the type doesn't allow

unfoldable pub valid_times_in : Judge BodyText
valid_times_in at (ScheduleText script type times) =
    fault_where (Times type) (at ++ codes ".times") (not (are_execution_times type (elements (times_value times))))
valid_times_in at _ = []

unfoldable pub valid_times : ConfigText → List Fault
valid_times c = each (λ at o. valid_times_in at o.body) (codes "object") c.objects

-- C20 A sort method other than fifo, 1, or a part of an attribute captured

abbrev pub is_other : ℤ → Option ℤ → Bool
is_other only None = false
is_other only (Some z) = not (int_le only z && int_le z only)

abbrev pub whole_attribute : Judge CaptureText
whole_attribute at x = fault_where DataIndex (at ++ codes ".data_index") (is_other (pos 0) x.data_index)

unfoldable pub valid_sorting_in : Judge BodyText
valid_sorting_in at (ProfileText captures period entries sort_method) =
    each whole_attribute (at ++ codes ".capture") captures.start
    ++ fault_where SortMethod (at ++ codes ".sort_method") (is_other (pos 1) sort_method)
    ++ each (each whole_attribute) (at ++ codes ".capture_menu") (menu_in captures)
valid_sorting_in at _ = []

unfoldable pub valid_sorting : ConfigText → List Fault
valid_sorting c = each (λ at o. valid_sorting_in at o.body) (codes "object") c.objects

-- C21 A second clock

abbrev pub is_clock : ObjectText → Bool
is_clock o = is_of_class o.class classes.Clock

abbrev pub new_clock : List ObjectText → Judge ObjectText
new_clock earlier at o = fault_where SecondClock (at ++ codes ".class") (is_clock o && list_any is_clock earlier)

unfoldable pub new_clocks : ConfigText → List Fault
new_clocks c = each_new new_clock (codes "object") c.objects

-- C22 An alternative that is what is configured, or an earlier one

-- the lists are equal, by a test of their elements
abbrev pub same_lists : {A : Type 0} → (A → A → Bool) → List A → List A → Bool
same_lists same [] [] = true
same_lists same [] (y ∷ ys) = false
same_lists same (x ∷ xs) [] = false
same_lists same (x ∷ xs) (y ∷ ys) = same x y && same_lists same xs ys

abbrev pub same_captures : List CaptureText → List CaptureText → Bool
same_captures = same_lists (λ x y. same_target x.target y.target)

abbrev pub same_script : ScriptRefText → ScriptRefText → Bool
same_script r s = bytes_eq r.table s.table && (int_le r.script s.script && int_le s.script r.script)

abbrev pub new_alternative : {A : Type 0} → (A → A → Bool) → A → List A → Judge A
new_alternative same start earlier at x = fault_where AlternativeTwice at (same start x || list_any (λ e. same e x) earlier)

unfoldable pub new_alternatives_in : Judge BodyText
new_alternatives_in at (ProfileText captures period entries sort_method) =
    each_new (new_alternative same_captures captures.start) (at ++ codes ".capture_menu") (menu_in captures)
new_alternatives_in at (ScheduleText script type times) =
    each_new (new_alternative same_script script.start) (at ++ codes ".script_menu") (menu_in script)
new_alternatives_in at _ = []

unfoldable pub new_alternatives : ConfigText → List Fault
new_alternatives c = each (λ at o. new_alternatives_in at o.body) (codes "object") c.objects

-- The faults of the first pass that has any, in the order of the codes.
unfoldable pub found : ConfigText → List Fault
found c =
    first_found
    (
    forms c  -- C4
    ∷ new_objects c  -- C5
    ∷ known_classes c  -- C6
    ∷ known_clients c  -- C7
    ∷ new_clients c  -- C8
    ∷ known_references c  -- C9
    ∷ known_indexes c  -- C10
    ∷ valid_values c  -- C11
    ∷ settable_rights c  -- C12
    ∷ equal_counts c  -- C13
    ∷ new_scripts c  -- C14
    ∷ no_executes c  -- C15
    ∷ within_limits c  -- C16
    ∷ new_labels c  -- C17
    ∷ fed_values c  -- C18
    ∷ valid_times c  -- C19
    ∷ valid_sorting c  -- C20
    ∷ new_clocks c  -- C21
    ∷ new_alternatives c  -- C22
    ∷ []
    )

-- The first of them: the first fault of the least code that is met.
unfoldable pub judged : ConfigText → Result ⊤ Fault
judged c = first_of (found c)
