use Rattle.std.proofs.Common.{◌≡◌, drop}
use Rattle.trail_words.specs.Wanting as spec
use Rattle.trail_words.proofs.wanted.is_since.Given as goal

-- none of the steps before told a moment
abbrev pub invariant-loop-step : goal.invariant-loop-step
invariant-loop-step l = spec.is_since l.fn.since l.fn.steps ≡ spec.is_since l.fn.since (drop l.step-index l.steps)
