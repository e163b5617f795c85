use Rattle.std.proofs.Common.{◌≡◌, map, take, ◌++◌}
use Rattle.class_control.proofs.references.push_named_tables.Given as goal

abbrev pub invariant-loop-script : goal.invariant-loop-script
invariant-loop-script l = l.names.items ≡ l.initial.names.items ++ map (λ r. r.table) (take l.script-index l.scripts)
