use Rattle.std.proofs.Common.{arith}
use Rattle.trail_store.proofs.Kept.{at-rest}
use Rattle.trail_store.proofs.store.TrailStore.new.Goals as goal

pub invariant_of-result : goal.invariant_of-result
invariant_of-result g c = record {
  usable = λ _. c.requires.usable;
  settled = λ _ clean. at-rest (g.D.Disk.seen c.args.trail.disk) (g.D.Disk.may_leave c.args.trail.disk) c.args.trail.end (c.requires.settled clean);
  few = omega arith;
}
