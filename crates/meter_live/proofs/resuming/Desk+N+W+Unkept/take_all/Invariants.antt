use Rattle.std.proofs.Common.{◌≡◌, ◌<◌, ◌+◌, length}
use Rattle.meter_theory.specs.Replies.{run}
use Rattle.meter_live.specs.Tally.{CountsOn}
use Rattle.meter_live.proofs.resuming.Desk+N+W+Unkept.take_all.Given as goal

-- what is left leads to the same state as all that was left at first, and to as many steps and changes
abbrev pub invariant-loop-untold : goal.invariant-loop-untold
invariant-loop-untold g l =
    let P = g.N.Naming.accepted.plan in
    let left = g.P.Recalls.left l.past in
    let first = g.P.Recalls.left l.initial.past in record {
      state : run P l.self.live.meter.state left ≡ run P l.initial.self.live.meter.state first;
      share : CountsOn P l.initial.share first l.share left;
      untold : l.untold < 1024;
      count : l.self.live.meter.count + length left ≡ l.initial.self.live.meter.count + length first;
    }

abbrev pub decreases-loop-untold : goal.decreases-loop-untold
decreases-loop-untold g l = length (g.P.Recalls.left l.past)
