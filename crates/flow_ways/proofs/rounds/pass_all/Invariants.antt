use Rattle.std.proofs.Common.{◌≡◌, false, take}
use Rattle.flow_ways.specs.Rounds.{IsRound}
use Rattle.flow_ways.proofs.rounds.pass_all.Given as goal

abbrev pub invariant-loop-link : goal.invariant-loop-link
invariant-loop-link l = IsRound l.reach (take l.link-index l.links) l.sets l.next × (l.grew ≡ false → l.next ≡ l.sets)
