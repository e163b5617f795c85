use Rattle.std.proofs.Common.{◌≡◌, ◌+◌, vec_len}
use Rattle.std.specs.Prelude.{sum_by}
use Rattle.meter_live.proofs.share.gather.Given as goal

-- what is merged so far and what is left are what was there and what came
abbrev pub invariant-loop-share : goal.invariant-loop-share
invariant-loop-share g l = record {
  steps : l.steps.amount + sum_by (λ s. s.steps) l.shares.items ≡ l.initial.steps.amount + sum_by (λ s. s.steps) l.initial.shares.items;
  changes : l.changes.amount + sum_by (λ s. s.changes) l.shares.items ≡ l.initial.changes.amount + sum_by (λ s. s.changes) l.initial.shares.items;
  steps_parts : l.steps.parts + vec_len l.shares ≡ l.initial.steps.parts + vec_len l.initial.shares;
  changes_parts : l.changes.parts + vec_len l.shares ≡ l.initial.changes.parts + vec_len l.initial.shares;
}

abbrev pub decreases-loop-share : goal.decreases-loop-share
decreases-loop-share g l = vec_len l.shares
