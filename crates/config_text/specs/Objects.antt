-- An object's table. Of an object whose class isn't known in the version of the text only `class` and `name` are looked at.
use Rattle.std.specs.Prelude.{false, ℕ, nat_le, Bool, Option, Some, None, option_and_then, codes, Result, Ok}
use Rattle.toml.specs.Data.{Members, as_integer, get_member}
use Rattle.meter_theory.specs.Classes.{class_in}
use Rattle.meter_theory.specs.declared.classes.Class as known
use Rattle.meter_theory.specs.declared.classes.Class.TheVariants as classes
use Rattle.config_text.specs.Fault.{Faults, ◌<*>◌}
use Rattle.config_text.specs.Parts.{Text, BodyText, UnknownText, ObjectText}
use Rattle.config_text.specs.declared.takes.Number.TheVariants.{Class}
use Rattle.config_text.specs.declared.takes.KeyTakes.TheVariants.{Name}
use Rattle.config_text.specs.Values.{number_in, text_at, natural_at, flag_at}
use Rattle.config_text.specs.Classes.{data_of, register_of, profile_of, clock_of, script_table_of, monitor_of, schedule_of}

-- the class, if its number can be one and is known in this version
abbrev pub class_told : ℕ → Members → Option known.Class
class_told version t =
    option_and_then (class_in version) (number_in Class (option_and_then as_integer (get_member (codes "class") t)))

-- a text of this version may have menus
abbrev pub has_menus : ℕ → Bool
has_menus version = nat_le 2 version

abbrev pub fed_of : Option known.Class → Text → Members → Result Bool Faults
fed_of None at t = Ok false
fed_of (Some class) at t = flag_at false at (codes "fed") t

-- what the table says of its class
abbrev pub body_of : Bool → Option known.Class → Text → Members → Result BodyText Faults
body_of menus None at t = Ok UnknownText
body_of menus (Some classes.Data) at t = data_of at t
body_of menus (Some classes.Register) at t = register_of at t
body_of menus (Some classes.ProfileGeneric) at t = profile_of menus at t
body_of menus (Some classes.Clock) at t = clock_of at t
body_of menus (Some classes.ScriptTable) at t = script_table_of at t
body_of menus (Some classes.RegisterMonitor) at t = monitor_of at t
body_of menus (Some classes.SingleActionSchedule) at t = schedule_of menus at t

abbrev pub object_text : ℕ → Text → Bool → BodyText → ObjectText
object_text class name fed body = record { class = class; name = name; fed = fed; body = body }

-- the class as it is told says what else is looked at
unfoldable pub object_of : ℕ → Text → Members → Result ObjectText Faults
object_of version at t =
    Ok object_text
    <*> natural_at Class at (codes "class") t
    <*> text_at Name at (codes "name") t
    <*> fed_of (class_told version t) at t
    <*> body_of (has_menus version) (class_told version t) at t
