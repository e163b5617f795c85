-- What the table of an object has by its interface class (IEC 62056-6-2), beside class, name and fed.
use Rattle.std.specs.Prelude.{ℕ, ℤ, ◌==◌, if◌then◌else◌, Bool, true, false, List, [], ◌∷◌, codes, Option, None, Result, Ok}
use Rattle.toml.specs.Data.{Members}
use Rattle.config_text.specs.Fault.{Faults, ◌<*>◌, ◌<*◌, ◌>>=◌}
use Rattle.config_text.specs.Parts.{Text, TargetText, ScriptRefText, BodyText, DataText, RegisterText, ProfileText, ClockText, ScriptTableText, MonitorText, ScheduleText, CaptureText, ActionText, ScriptText, UpDownText}
use Rattle.config_text.specs.declared.service.Service.{Service}
use Rattle.config_text.specs.declared.service.Service.TheVariants.{Write, Invoke}
use Rattle.config_text.specs.Keys.{others, others_of}
use Rattle.config_text.specs.declared.takes.Number.TheVariants as numbers
use Rattle.config_text.specs.declared.takes.KeyTakes.TheVariants.{DataIndex, Hex, Hexes, Lists, Moment, SortMethod, Tables}
use Rattle.config_text.specs.Lists.{menu_at, texts_at}
use Rattle.config_text.specs.Tables.{list_at, table_at, table_of, tables_of}
use Rattle.config_text.specs.Values.{text_at, natural_at, scaler_at, optional_text_at, optional_integer_at}
use Rattle.config_text.specs.Targets.{target_of, target_table_of, script_ref_of}

-- Data
unfoldable pub data_of : Text → Members → Result BodyText Faults
data_of at t = Ok DataText <*> text_at Hex at (codes "value") t <* others (codes "class" ∷ codes "name" ∷ codes "fed" ∷ codes "value" ∷ []) at t

-- Register
abbrev pub register_text : Text → Text → ℤ → ℕ → BodyText
register_text value default scaler unit = RegisterText value default scaler unit

unfoldable pub register_of : Text → Members → Result BodyText Faults
register_of at t =
    Ok register_text
    <*> text_at Hex at (codes "value") t
    <*> text_at Hex at (codes "default") t
    <*> scaler_at at (codes "scaler") t
    <*> natural_at numbers.Unit at (codes "unit") t
    <* others (codes "class" ∷ codes "name" ∷ codes "fed" ∷ codes "value" ∷ codes "default" ∷ codes "scaler" ∷ codes "unit" ∷ []) at t

-- Profile generic: an attribute that it captures, and the profile
abbrev pub capture_text : TargetText → Option ℤ → CaptureText
capture_text target data_index = record { target = target; data_index = data_index }

unfoldable pub capture_of : Text → Members → Result CaptureText Faults
capture_of at t =
    Ok capture_text
    <*> target_of at t
    <*> optional_integer_at DataIndex at (codes "data_index") t
    <* others (codes "object" ∷ codes "index" ∷ codes "data_index" ∷ []) at t

-- the keys of a profile, with that of its menu or without
abbrev pub known_in_profile : Bool → List Text
known_in_profile false =
    codes "class" ∷ codes "name" ∷ codes "fed" ∷ codes "capture" ∷ codes "period" ∷ codes "entries" ∷ codes "sort_method" ∷ []
known_in_profile true =
    codes "class" ∷ codes "name" ∷ codes "fed" ∷ codes "capture" ∷ codes "period" ∷ codes "entries" ∷ codes "sort_method"
    ∷ codes "capture_menu" ∷ []

abbrev pub profile_text : List CaptureText → ℕ → ℕ → Option ℤ → Option (List (List CaptureText)) → BodyText
profile_text captures period entries sort_method menu = ProfileText (record { start = captures; menu = menu }) period entries sort_method

-- the alternatives to what a profile captures, where it may have a menu
abbrev pub capture_menu_of : Bool → Text → Members → Result (Option (List (List CaptureText))) Faults
capture_menu_of false at t = Ok None
capture_menu_of true at t = menu_at Lists (tables_of capture_of) at (codes "capture_menu") t

unfoldable pub profile_of : Bool → Text → Members → Result BodyText Faults
profile_of menus at t =
    Ok profile_text
    <*> list_at capture_of at (codes "capture") t
    <*> natural_at numbers.Period at (codes "period") t
    <*> natural_at numbers.Entries at (codes "entries") t
    <*> optional_integer_at SortMethod at (codes "sort_method") t
    <*> capture_menu_of menus at t
    <* others_of (known_in_profile menus) (codes "capture_menu" ∷ []) at t

-- Clock: the moment at which its time starts, as a text
unfoldable pub clock_of : Text → Members → Result BodyText Faults
clock_of at t = Ok ClockText <*> text_at Moment at (codes "time") t <* others (codes "class" ∷ codes "name" ∷ codes "fed" ∷ codes "time" ∷ []) at t

-- Script table: an action, a script, and the table
-- 1 writes an attribute, 2 invokes a method
unfoldable pub service_at : Text → Text → Members → Result Service Faults
service_at at key t = do
  n ← natural_at numbers.Service at key t
  Ok (if n == 1 then Write else Invoke)

abbrev pub action_text : Service → TargetText → Option Text → ActionText
action_text service target value = record { service = service; target = target; value = value }

unfoldable pub action_of : Text → Members → Result ActionText Faults
action_of at t =
    Ok action_text
    <*> service_at at (codes "service") t
    <*> target_of at t
    <*> optional_text_at Hex at (codes "value") t
    <* others (codes "service" ∷ codes "object" ∷ codes "index" ∷ codes "value" ∷ []) at t

abbrev pub script_text : ℕ → List ActionText → ScriptText
script_text id actions = record { id = id; actions = actions }

unfoldable pub script_of : Text → Members → Result ScriptText Faults
script_of at t =
    Ok script_text
    <*> natural_at numbers.Script at (codes "id") t
    <*> list_at action_of at (codes "action") t
    <* others (codes "id" ∷ codes "action" ∷ []) at t

unfoldable pub script_table_of : Text → Members → Result BodyText Faults
script_table_of at t = Ok ScriptTableText <*> list_at script_of at (codes "script") t <* others (codes "class" ∷ codes "name" ∷ codes "fed" ∷ codes "script" ∷ []) at t

-- Register monitor: the scripts of a threshold, and the monitor
abbrev pub up_down_text : ScriptRefText → ScriptRefText → UpDownText
up_down_text up down = record { up = up; down = down }

unfoldable pub up_down_of : Text → Members → Result UpDownText Faults
up_down_of at t =
    Ok up_down_text
    <*> table_at script_ref_of at (codes "up") t
    <*> table_at script_ref_of at (codes "down") t
    <* others (codes "up" ∷ codes "down" ∷ []) at t

abbrev pub monitor_text : TargetText → List Text → List UpDownText → BodyText
monitor_text monitored thresholds actions = MonitorText monitored thresholds actions

unfoldable pub monitor_of : Text → Members → Result BodyText Faults
monitor_of at t =
    Ok monitor_text
    <*> table_at target_table_of at (codes "monitored") t
    <*> texts_at Hexes at (codes "thresholds") t
    <*> list_at up_down_of at (codes "action") t
    <* others (codes "class" ∷ codes "name" ∷ codes "fed" ∷ codes "monitored" ∷ codes "thresholds" ∷ codes "action" ∷ []) at t

-- Single action schedule
abbrev pub known_in_schedule : Bool → List Text
known_in_schedule false = codes "class" ∷ codes "name" ∷ codes "fed" ∷ codes "script" ∷ codes "type" ∷ codes "times" ∷ []
known_in_schedule true =
    codes "class" ∷ codes "name" ∷ codes "fed" ∷ codes "script" ∷ codes "type" ∷ codes "times" ∷ codes "script_menu" ∷ []

abbrev pub schedule_text : ScriptRefText → ℕ → List Text → Option (List ScriptRefText) → BodyText
schedule_text script type times menu = ScheduleText (record { start = script; menu = menu }) type times

-- the alternatives to the script of a schedule, where it may have a menu
abbrev pub script_menu_of : Bool → Text → Members → Result (Option (List ScriptRefText)) Faults
script_menu_of false at t = Ok None
script_menu_of true at t = menu_at Tables (table_of Tables script_ref_of) at (codes "script_menu") t

unfoldable pub schedule_of : Bool → Text → Members → Result BodyText Faults
schedule_of menus at t =
    Ok schedule_text
    <*> table_at script_ref_of at (codes "script") t
    <*> natural_at numbers.ScheduleType at (codes "type") t
    <*> texts_at Hexes at (codes "times") t
    <*> script_menu_of menus at t
    <* others_of (known_in_schedule menus) (codes "script_menu" ∷ []) at t
