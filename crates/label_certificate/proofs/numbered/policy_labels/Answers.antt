use Rattle.std.proofs.Common.{subst}
use Rattle.meter_theory.specs.Lists.{IsIn}
use Rattle.flow_edges.specs.Table.{cell_at}
use Rattle.label_certificate.proofs.Closed.{item_at}
use Rattle.label_certificate.proofs.numbered.policy_labels.Goals as goal

pub policy_label-requires-clause-cell : goal.policy_label-requires-clause-cell
policy_label-requires-clause-cell c =
    let i = c.loop-cell.cell-index in
    subst (λ xs. IsIn xs (cell_at c.args.cells.now i)) c.requires (item_at c.args.cells.now i c.loop-cell-test.true)
