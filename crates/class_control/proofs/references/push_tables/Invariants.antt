use Rattle.std.proofs.Common.{◌≡◌, map, take, ◌++◌}
use Rattle.meter_theory.specs.Edges.{scripts_named}
use Rattle.class_control.proofs.references.push_tables.Given as goal

abbrev pub invariant-loop-action : goal.invariant-loop-action
invariant-loop-action l = l.names.items ≡ l.initial.names.items ++ map (λ r. r.table) (scripts_named (take l.action-index l.actions))
