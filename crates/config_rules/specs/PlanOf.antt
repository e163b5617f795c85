-- The plan and the policy of what the tables of a configuration say.
use Rattle.std.specs.Prelude.{ℕ, ℤ, pos, int_le, unsigned_abs, cond, ◌&&◌, List, [], ◌∷◌, map, Option, Some, None, option_map}
use Rattle.std.specs.List.{position_from}
use Rattle.std.specs.Str.{bytes_eq}
use Rattle.cosem_data.specs.Tree.{Tree, null_data}
use Rattle.cosem_data.specs.Cells.{cell}
use Rattle.cosem_data.specs.declared.name.LogicalName.{LogicalName}
use Rattle.cosem_data.specs.declared.cell.CellRef.{CellRef}
use Rattle.cosem_data.specs.declared.cell.MethodRef.{MethodRef}
use Rattle.meter_theory.specs.Menus.{Choice}
use Rattle.meter_theory.specs.Times.{Moment, first_moment}
use Rattle.meter_theory.specs.Value.{array_of}
use Rattle.meter_theory.specs.declared.refs.ScriptRef.{ScriptRef}
use Rattle.meter_theory.specs.declared.refs.UpDown.{UpDown}
use Rattle.meter_theory.specs.Plan as theory
use Rattle.meter_theory.specs.Plan.{Plan, Client, Action, Script, Part, Object, Right}
use Rattle.civil_moment.specs.MomentText.{moment_in}
use Rattle.config_text.specs.declared.service.Service.{Service}
use Rattle.config_text.specs.declared.service.Service.TheVariants.{Write, Invoke}
use Rattle.config_text.specs.Parts.{Text, MenuText, CaptureText, ClientText, ObjectText, TargetText, ScriptRefText, ScriptText, UpDownText, RightText, ConfigText, BodyText, DataText, RegisterText, ProfileText, ClockText, ScriptTableText, MonitorText, ScheduleText, UnknownText}
use Rattle.config_rules.specs.Names.{class_named, menu_in}
use Rattle.value_text.specs.Texts.{name_in, bytes_in, value_in}
use Rattle.config_rules.specs.Values.{time_and_date}

-- Where a configuration has no fault, each of these finds what it looks for.

abbrev pub or_else : {A : Type 0} → A → Option A → A
or_else absent None = absent
or_else absent (Some x) = x

-- six bytes that name nothing
abbrev pub no_name : LogicalName
no_name = record { 0 = 0 ∷ 0 ∷ 0 ∷ 0 ∷ 0 ∷ 0 ∷ [] }

abbrev pub name_of : Text → LogicalName
name_of text = or_else no_name (name_in text)

abbrev pub value_of : Text → Tree
value_of text = or_else null_data (value_in text)

abbrev pub time_of : Text → Tree
time_of text = time_and_date (or_else [] (bytes_in text))

abbrev pub moment_of : Text → Moment
moment_of text = or_else first_moment (moment_in text)

abbrev pub thresholds_value : List Text → Tree
thresholds_value thresholds = array_of (map value_of thresholds)

abbrev pub times_value : List Text → Tree
times_value times = array_of (map time_of times)

-- the attribute and the method that a target names
abbrev pub cell_named : ConfigText → TargetText → CellRef
cell_named c t = cell (class_named c t.object) (name_of t.object) t.index

abbrev pub method_named : ConfigText → TargetText → MethodRef
method_named c t = record { class_id = class_named c t.object; name = name_of t.object; index = t.index }

-- a script's identifier has sixteen bits (IEC 62056-6-2, Script table, script_identifier)
abbrev pub script_number : ℤ → ℕ
script_number n = cond (int_le (pos 0) n && int_le n (pos 65535)) (unsigned_abs n) 0

abbrev pub script_named : ScriptRefText → ScriptRef
script_named r = record { table = name_of r.table; script = script_number r.script }

-- an action's value, null-data where there is none
abbrev pub parameter_of : Option Text → Tree
parameter_of value = or_else null_data (option_map value_of value)

abbrev pub action_of : ConfigText → Service → TargetText → Option Text → Action
action_of c Write t value = theory.Write (cell_named c t) (parameter_of value)
action_of c Invoke t value = theory.Invoke (method_named c t) (parameter_of value)

abbrev pub script_of : ConfigText → ScriptText → Script
script_of c s = record { id = s.id; actions = map (λ a. action_of c a.service a.target a.value) s.actions }

-- the attributes that a profile captures, and those of its alternatives
abbrev pub cells_named : ConfigText → List CaptureText → List CellRef
cells_named c captures = map (λ x. cell_named c x.target) captures

abbrev pub captures_of : ConfigText → MenuText (List CaptureText) → Choice (List CellRef)
captures_of c captures = record { configured = cells_named c captures.start; menu = map (cells_named c) (menu_in captures) }

-- the script of a schedule, and those of its alternatives
abbrev pub scripts_of : MenuText ScriptRefText → Choice ScriptRef
scripts_of script = record { configured = script_named script.start; menu = map script_named (menu_in script) }

abbrev pub up_down_of : UpDownText → UpDown
up_down_of a = record { up = script_named a.up; down = script_named a.down }

abbrev pub part_of : ConfigText → BodyText → Part
part_of c (DataText value) = theory.Data1 (value_of value)
part_of c (RegisterText value default scaler unit) =
    theory.Register (value_of value) (value_of default) (record { scaler = scaler; unit = unit })
part_of c (ProfileText captures period entries sort_method) =
    theory.ProfileGeneric (captures_of c captures) period entries
part_of c (ClockText time) = theory.Clock (moment_of time)
part_of c (ScriptTableText scripts) = theory.ScriptTable (map (script_of c) scripts)
part_of c (MonitorText monitored thresholds actions) =
    theory.RegisterMonitor (cell_named c monitored) (thresholds_value thresholds) (map up_down_of actions)
part_of c (ScheduleText script type times) = theory.SingleActionSchedule (scripts_of script) type (times_value times)
part_of c UnknownText = theory.ScriptTable []

abbrev pub object_of : ConfigText → ObjectText → Object
object_of c o = record { name = name_of o.name; fed = o.fed; part = part_of c o.body }

abbrev pub client_of : ClientText → Client
client_of client = record { name = client.name; sap = client.sap; password = client.password }

-- the place of the client with this name
abbrev pub client_place : ConfigText → Text → ℕ
client_place c name = or_else 0 (position_from (λ client. bytes_eq client.name name) 0 c.clients)

abbrev pub right_of : ConfigText → RightText → Right
right_of c r = record { client = client_place c r.client; object = name_of r.object; gets = r.gets; sets = r.sets; acts = r.acts }

-- The plan of a configuration.
abbrev pub plan_of : ConfigText → Plan
plan_of c = record { version = c.version; clients = map client_of c.clients; objects = map (object_of c) c.objects; rights = map (right_of c) c.rights }
