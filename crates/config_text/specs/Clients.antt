-- A client's table.
use Rattle.std.specs.Prelude.{ℕ, [], ◌∷◌, codes, Option, Result, Ok}
use Rattle.toml.specs.Data.{Members}
use Rattle.config_text.specs.Fault.{Faults, ◌<*>◌, ◌<*◌}
use Rattle.config_text.specs.Parts.{Text, ClientText}
use Rattle.config_text.specs.Keys.{others}
use Rattle.config_text.specs.declared.takes.Number.TheVariants.{Sap}
use Rattle.config_text.specs.declared.takes.KeyTakes.TheVariants.{Name}
use Rattle.config_text.specs.Values.{text_at, natural_at, password_at}

abbrev pub client_text : Text → ℕ → Option Text → ClientText
client_text name sap password = record { name = name; sap = sap; password = password }

unfoldable pub client_of : Text → Members → Result ClientText Faults
client_of at t =
    Ok client_text
    <*> text_at Name at (codes "name") t
    <*> natural_at Sap at (codes "sap") t
    <*> password_at at (codes "password") t
    <* others (codes "name" ∷ codes "sap" ∷ codes "password" ∷ []) at t
