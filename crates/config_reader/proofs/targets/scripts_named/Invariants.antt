use Rattle.std.proofs.Common.{◌≡◌, map, take}
use Rattle.config_rules.specs.PlanOf.{script_named}
use Rattle.config_reader.proofs.targets.scripts_named.Given as goal

-- the scripts before are taken
abbrev pub invariant-loop-script : goal.invariant-loop-script
invariant-loop-script l = l.menu.items ≡ map script_named (take l.script-index l.scripts)
