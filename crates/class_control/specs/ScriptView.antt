-- What a script of the code stands for.
use Rattle.std.specs.Prelude.{map}
use Rattle.meter_theory.specs.Plan as theory
use Rattle.class_control.specs.ActionView.{action_of}
use Rattle.class_control.specs.declared.script.Script.{Script}

-- its number and its actions: IEC 62056-6-2, Script table, script
abbrev pub script_of : Script → theory.Script
script_of script = record { id = script.id; actions = map action_of script.actions.items }
