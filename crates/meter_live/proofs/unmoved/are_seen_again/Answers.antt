use Rattle.std.specs.List.{All}
use Rattle.meter_live.specs.Keeping.{IsSeenAgain}
use Rattle.meter_live.proofs.Stays.{all-next}
use Rattle.meter_live.proofs.unmoved.are_seen_again.Goals as goal

pub loop-undo-preserved : goal.loop-undo-preserved
loop-undo-preserved c =
    all-next (IsSeenAgain c.args.meter.now) c.args.undos.now c.loop-undo.undo-index c.undo-item.result c.loop-undo-test.true c.undo-item.is c.loop-undo.invariant (c.is_seen_again.ensures.0 c.if-not-is_seen_again.false)
