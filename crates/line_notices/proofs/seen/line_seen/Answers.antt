use Rattle.std.proofs.Common.{sym, ap, ◌∙◌}
use Rattle.meter_core.specs.Moments.{moment_steps, tick_steps}
use Rattle.line_notices.specs.Seen.{first_seen}
use Rattle.line_notices.proofs.Seeing.{taken}
use Rattle.line_notices.proofs.seen.line_seen.Goals as goal

pub returns-in-At : goal.returns-in-At
returns-in-At c =
    let a = c.args.sight.checked.now in
    rw c.in-At.is (c.seen_behind.ensures ∙ sym (ap (first_seen a c.args.sight.client) (taken (moment_steps a.plan c.in-At.moment))))

pub returns-in-Ticks : goal.returns-in-Ticks
returns-in-Ticks c =
    let a = c.args.sight.checked.now in
    rw c.in-Ticks.is (c.seconds_seen.ensures ∙ sym (ap (first_seen a c.args.sight.client) (taken (tick_steps a.plan c.in-Ticks.seconds))))
