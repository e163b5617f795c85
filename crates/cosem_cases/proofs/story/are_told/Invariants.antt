use Rattle.std.proofs.Common.{◌≡◌}
use Rattle.cosem_cases.proofs.story.are_told.Given as goal

abbrev pub invariant-loop-line : goal.invariant-loop-line
invariant-loop-line l = record {
  first : l.pair.first.plan ≡ l.solo.plan;
  second : l.pair.second.plan ≡ l.solo.plan;
}
