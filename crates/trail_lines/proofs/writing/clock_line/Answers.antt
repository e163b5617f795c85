use Rattle.std.proofs.Common.{◌≡◌, [], ◌∷◌, string_bytes, subst, sym}
use Rattle.std.specs.Prelude.{codes}
use Rattle.civil_moment.specs.Texts.{moment_text}
use Rattle.meter_theory.specs.Steps as theory
use Rattle.trail_lines.specs.Writing.{Says, worded}
use Rattle.trail_lines.proofs.Written.{clock-line}
use Rattle.trail_lines.proofs.writing.clock_line.Goals as goal

pub returns-clause-says : goal.returns-clause-says
returns-clause-says c =
    let text : string_bytes c.in_ok-format.field-0 ≡ worded (codes "set-clock") (moment_text c.args.moment) = c.in_ok-format.ensures.ok in
    subst (Says c.args.plan.now (theory.ClockAt c.args.moment ∷ [])) (sym text) (clock-line c.args.plan.now c.args.moment c.known.ensures)
