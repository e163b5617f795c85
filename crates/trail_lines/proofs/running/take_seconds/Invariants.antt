use Rattle.std.proofs.Common.{◌≡◌}
use Rattle.meter_theory.specs.Replies.{run}
use Rattle.step_keeping.specs.Keeping.{ticks}
use Rattle.trail_lines.proofs.running.take_seconds.Given as goal

abbrev pub invariant-loop-second : goal.invariant-loop-second
invariant-loop-second l = l.meter ≡ record { plan = l.initial.meter.plan; meter = run l.initial.meter.plan l.initial.meter.meter (ticks l._second) }
