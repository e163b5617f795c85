use Rattle.std.proofs.Common.{◌≡◌, ◌+◌, ◌-◌, ◌≤◌, drop, length}
use Rattle.config_text.specs.Near as spec
use Rattle.config_text.proofs.near.alike.Given as goal

-- as many are alike, and as many more as behind them
abbrev pub invariant-loop-count : goal.invariant-loop-count
invariant-loop-count l = record {
  alike : l.count + spec.alike (drop l.count l.one) (drop l.count l.other) ≡ spec.alike l.one l.other;
  short : l.count ≤ length l.one;
  short_too : l.count ≤ length l.other;
}

abbrev pub decreases-loop-count : goal.decreases-loop-count
decreases-loop-count l = length l.one - l.count
