use Rattle.std.proofs.Common.{◌≡◌, string_bytes, subst, sym}
use Rattle.step_keeping.specs.Keeping.{ticks}
use Rattle.trail_lines.specs.Writing.{Says, seconds_text}
use Rattle.trail_lines.proofs.Written.{seconds-line}
use Rattle.trail_lines.proofs.writing.write_seconds.Goals as goal

pub returns-clause-says : goal.returns-clause-says
returns-clause-says c =
    let text : string_bytes c.in_ok-format.field-0 ≡ seconds_text c.args.seconds = c.in_ok-format.ensures.ok in
    subst (Says c.args.plan.now (ticks c.args.seconds)) (sym text) (seconds-line c.args.plan.now c.args.seconds c.requires.0 c.requires.1)
