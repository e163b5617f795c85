-- The tables by which others name an attribute or method, and a script.
use Rattle.std.specs.Prelude.{ℕ, ℤ, [], ◌∷◌, codes, Result, Ok}
use Rattle.toml.specs.Data.{Members}
use Rattle.config_text.specs.Fault.{Faults, ◌<*>◌, ◌<*◌}
use Rattle.config_text.specs.Parts.{Text, TargetText, ScriptRefText}
use Rattle.config_text.specs.Keys.{others}
use Rattle.config_text.specs.declared.takes.Number.TheVariants.{Index}
use Rattle.config_text.specs.declared.takes.KeyTakes.TheVariants.{LogicalName, Script}
use Rattle.config_text.specs.Values.{text_at, natural_at, integer_at}

-- an attribute or method
abbrev pub target_text : Text → ℕ → TargetText
target_text object index = record { object = object; index = index }

unfoldable pub target_of : Text → Members → Result TargetText Faults
target_of at t = Ok target_text <*> text_at LogicalName at (codes "object") t <*> natural_at Index at (codes "index") t

-- the same in a table of its own
unfoldable pub target_table_of : Text → Members → Result TargetText Faults
target_table_of at t = target_of at t <* others (codes "object" ∷ codes "index" ∷ []) at t

-- a script of a script table
abbrev pub script_ref_text : Text → ℤ → ScriptRefText
script_ref_text table script = record { table = table; script = script }

unfoldable pub script_ref_of : Text → Members → Result ScriptRefText Faults
script_ref_of at t =
    Ok script_ref_text
    <*> text_at LogicalName at (codes "table") t
    <*> integer_at Script at (codes "script") t
    <* others (codes "table" ∷ codes "script" ∷ []) at t
