use Rattle.std.proofs.Common.{◌≡◌, take, ◌++◌}
use Rattle.meter_theory.specs.Edges.{scripts_named}
use Rattle.object_model.proofs.script_places.push_actions.Given as goal

abbrev pub invariant-loop-action : goal.invariant-loop-action
invariant-loop-action l = l.scripts.items ≡ l.initial.scripts.items ++ scripts_named (take l.action-index l.actions)
