use Rattle.std.proofs.Common.{◌≡◌, map, take}
use Rattle.label_certificate.specs.LabelText.{cell_place}
use Rattle.flow_changes.proofs.edges.numbers_in.Given as goal

abbrev pub invariant-loop-cell : goal.invariant-loop-cell
invariant-loop-cell l = l.numbers.items ≡ map (cell_place l.plan) (take l.cell-index l.cells)
