-- What is due at one threshold, as a list.
use Rattle.std.specs.Prelude.{List, [], ◌∷◌, Option, Some, None}
use Rattle.meter_theory.specs.declared.refs.ScriptRef.{ScriptRef}

-- a script, or none: own profile
abbrev pub as_list : Option ScriptRef → List ScriptRef
as_list (Some script) = script ∷ []
as_list None = []
