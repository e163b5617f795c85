use Rattle.meter_live.proofs.Kept.{admits, forks, merges}
use Rattle.meter_live.proofs.pen.Pen.reader.Goals as goal

pub reader-requires : goal.reader-requires
reader-requires c x views h = admits x.accepted.plan x.state x.front views h

pub tell-requires : goal.tell-requires
tell-requires c x views h at = forks x.accepted.plan x.state x.front views _ _ h at

pub learn-requires-clause-rule : goal.learn-requires-clause-rule
learn-requires-clause-rule c x views h at apart there = merges x.accepted.plan x.state x.front views _ _ _ h apart there
