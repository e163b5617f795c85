use Rattle.std.proofs.Common.{◌≡◌, map, take}
use Rattle.config_rules.specs.PlanOf.{up_down_of}
use Rattle.config_reader.proofs.targets.actions_of.Given as goal

-- the actions before are taken
abbrev pub invariant-loop-action : goal.invariant-loop-action
invariant-loop-action l = l.list.items ≡ map up_down_of (take l.action-index l.actions)
