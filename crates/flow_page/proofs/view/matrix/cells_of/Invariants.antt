use Rattle.std.proofs.Common.{◌≡◌, map, take}
use Rattle.meter_theory.specs.Plan.{cells}
use Rattle.flow_edges.specs.Table.{cell_at}
use Rattle.flow_page.proofs.view.matrix.cells_of.Given as goal

abbrev pub invariant-loop-number : goal.invariant-loop-number
invariant-loop-number l = l.cells.items ≡ map (cell_at (cells l.ways.plan)) (take l.number-index l.row)
