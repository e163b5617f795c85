use Rattle.std.proofs.Common.{◌∙◌}
use Rattle.line_words.proofs.States.{all-valued}
use Rattle.line_words.proofs.watch.Watch.new.Goals as goal

pub returns : goal.returns
returns c =
    all-valued c.args.plan.now c.args.meter.now c.loop-cell.kept.items c.deref-cell-items.result.now c.loop-cell.cell-index
    (c.deref-cell-items.ensures.value ∙ c.in_ok-cells.ensures) c.loop-cell-test.false c.loop-cell.invariant
