use Rattle.std.proofs.Common.{◌≡◌, ◌++◌, take}
use Rattle.flow_edges.specs.Marking.{numbers_of}
use Rattle.flow_edges.proofs.script_changes.push_numbers.Given as goal

abbrev pub invariant-loop-cell : goal.invariant-loop-cell
invariant-loop-cell l = l.numbers.items ≡ l.initial.numbers.items ++ numbers_of l.object.plan (take l.cell-index l.cells)
