use Rattle.std.proofs.Common.{◌∙◌}
use Rattle.label_certificate.proofs.Written.{labels-more}
use Rattle.label_certificate.proofs.writing.write_labels.Goals as goal

pub loop-cell-preserved : goal.loop-cell-preserved
loop-cell-preserved c =
    labels-more c.args.plan.now c.entries-cell-items.result.now c.loop-cell.cell-index c.loop-cell-item.result c.loop-cell.text.items c.push_line.new.text.items
    c.loop-cell-test.true c.loop-cell-item.is c.in_ok-push_line.ensures
    ∙ c.loop-cell.invariant
