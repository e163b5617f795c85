use Rattle.std.proofs.Common.{◌≡◌, map, take, ◌++◌}
use Rattle.class_profile.proofs.profile.push_captured.Given as goal

abbrev pub invariant-loop-cell : goal.invariant-loop-cell
invariant-loop-cell l = l.names.items ≡ l.initial.names.items ++ map (λ x. x.name) (take l.cell-index l.captured)
