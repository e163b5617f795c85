use Rattle.std.proofs.Common.{◌≡◌, map, take}
use Rattle.class_control.specs.ScriptView as view
use Rattle.config_rules.specs.PlanOf.{script_of}
use Rattle.config_reader.proofs.scripts.scripts_of.Given as goal

-- the scripts before are taken
abbrev pub invariant-loop-part : goal.invariant-loop-part
invariant-loop-part l = map view.script_of l.scripts.items ≡ map (script_of l.directory.config.now) (take l.part-index l.parts)
