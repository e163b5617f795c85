-- Names in the texts of a configuration, and what they name.
use Rattle.std.specs.Prelude.{ℕ, Bool, false, ◌&&◌, ◌||◌, List, [], find, Option, Some, None, is_some}
use Rattle.std.specs.Option.{unwrap_or}
use Rattle.std.specs.List.{list_any}
use Rattle.std.specs.Str.{bytes_eq}
use Rattle.meter_theory.specs.Classes.{is_choice}
use Rattle.config_text.specs.Parts.{Text, MenuText, ConfigText, ObjectText, TargetText, ScriptText, BodyText, ProfileText, ScriptTableText, ScheduleText}

-- the object and the client with this name
abbrev pub object_named : ConfigText → Text → Option ObjectText
object_named c name = find (λ o. bytes_eq o.name name) c.objects

abbrev pub has_client : ConfigText → Text → Bool
has_client c name = list_any (λ client. bytes_eq client.name name) c.clients

-- the class of the object with this name, 0 where there is none
abbrev pub class_in : Option ObjectText → ℕ
class_in None = 0
class_in (Some o) = o.class

abbrev pub class_named : ConfigText → Text → ℕ
class_named c name = class_in (object_named c name)

-- the class of what is named at a target passes a test of classes and indexes
abbrev pub target_is : ConfigText → (ℕ → ℕ → Bool) → TargetText → Bool
target_is c test t = test (class_named c t.object) t.index

-- the alternatives of a menu beside the one at the start
abbrev pub menu_in : {A : Type 0} → MenuText A → List A
menu_in m = unwrap_or m.menu []

-- an object has the key of a menu
abbrev pub has_menu_key : BodyText → Bool
has_menu_key (ProfileText captures period entries sort_method) = is_some captures.menu
has_menu_key (ScheduleText script type times) = is_some script.menu
has_menu_key _ = false

abbrev pub menu_key_of : Option ObjectText → Bool
menu_key_of None = false
menu_key_of (Some o) = has_menu_key o.body

-- an attribute passes a test of classes and indexes, or it is a settable cell because its object has a menu
abbrev pub passes_or_chosen : ConfigText → (ℕ → ℕ → Bool) → Text → ℕ → Bool
passes_or_chosen c test name index =
    test (class_named c name) index || (menu_key_of (object_named c name) && is_choice (class_named c name) index)

-- the scripts of a script table
abbrev pub scripts_in : BodyText → List ScriptText
scripts_in (ScriptTableText scripts) = scripts
scripts_in _ = []
