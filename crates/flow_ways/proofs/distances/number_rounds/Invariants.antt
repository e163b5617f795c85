use Rattle.std.proofs.Common.{◌≡◌, ℕ, suc}
use Rattle.flow_ways.specs.Distances.{AreFirstRounds}
use Rattle.flow_ways.specs.Rounds.{AreReached}
use Rattle.flow_ways.proofs.distances.number_rounds.Given as goal

abbrev pub invariant-loop-distance : goal.invariant-loop-distance
invariant-loop-distance l =
    (k : ℕ) × (l.distance ≡ suc k) × AreReached l.plan l.reach k l.sets.items × AreFirstRounds l.plan l.reach k l.numbers
