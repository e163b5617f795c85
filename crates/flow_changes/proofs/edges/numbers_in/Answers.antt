use Rattle.flow_edges.specs.Table.{no_cell}
use Rattle.label_certificate.specs.LabelText.{cell_place}
use Rattle.flow_changes.proofs.Lists.{map-more}
use Rattle.flow_changes.proofs.edges.numbers_in.Goals as goal

pub loop-cell-preserved : goal.loop-cell-preserved
loop-cell-preserved c =
    map-more (cell_place c.args.plan.now) c.args.cells.now c.loop-cell.cell-index no_cell c.loop-cell.numbers.items c.push.new.self.items c.cell_number.result c.loop-cell-test.true c.loop-cell.invariant c.cell_number.ensures c.in_ok-push.ensures.items
