use Rattle.std.proofs.Common.{◌≡◌, map, take, ◌++◌}
use Rattle.class_control.specs.ActionView.{action_of}
use Rattle.cosem_class.specs.Parts.{target}
use Rattle.class_control.proofs.references.push_targets.Given as goal

abbrev pub invariant-loop-action : goal.invariant-loop-action
invariant-loop-action l = l.names.items ≡ l.initial.names.items ++ map target (map action_of (take l.action-index l.actions))
