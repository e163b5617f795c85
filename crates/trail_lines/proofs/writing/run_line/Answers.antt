use Rattle.std.proofs.Common.{◌≡◌, [], ◌∷◌, string_bytes, subst, sym}
use Rattle.std.specs.Prelude.{codes}
use Rattle.cosem_data.specs.Names.{name_text}
use Rattle.meter_theory.specs.Steps as theory
use Rattle.trail_lines.specs.Writing.{Says, worded}
use Rattle.trail_lines.proofs.Written.{run-line}
use Rattle.trail_lines.proofs.writing.run_line.Goals as goal

pub returns-clause-says : goal.returns-clause-says
returns-clause-says c =
    let text : string_bytes c.in_ok-format.field-0 ≡ worded (codes "run-if-due") (name_text c.args.schedule.now.0) = c.in_ok-format.ensures.ok in
    subst (Says c.args.plan.now (theory.ScheduleAt c.args.schedule.now ∷ [])) (sym text) (run-line c.args.plan.now c.args.schedule.now c.know_name.ensures)
