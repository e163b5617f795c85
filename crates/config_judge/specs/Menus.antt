-- What has a menu, as the code holds it.
use Rattle.std.specs.Prelude.{List, Option, option_map}
use Rattle.std.specs.Global.{Vec}
use Rattle.config_text.specs.Parts.{MenuText}

-- the alternatives of a menu, if it is there (own profile)
abbrev pub menu_of : {A : Type 0} → Option (Vec A) → Option (List A)
menu_of menu = option_map (λ v. v.items) menu

-- what is configured, with its menu (own profile)
abbrev pub with_menu : {A : Type 0} → A → Option (Vec A) → MenuText A
with_menu start menu = record { start = start; menu = menu_of menu }
