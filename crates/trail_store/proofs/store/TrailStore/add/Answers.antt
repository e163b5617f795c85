use Rattle.std.proofs.Common.{arith}
use Rattle.trail_store.proofs.Kept.{at-rest}
use Rattle.trail_store.proofs.store.TrailStore.add.Goals as goal

pub invariant_of-self : goal.invariant_of-self
invariant_of-self g c =
    let new = c.commit-added.new.trail in
    record {
      usable = λ _. c.in-Ok.ensures.usable;
      settled = λ _ clean. at-rest (g.D.Disk.seen new.disk) (g.D.Disk.may_leave new.disk) new.end (c.in-Ok.ensures.settled clean);
      few = omega arith;
    }
