use Rattle.std.proofs.Common.{inl, inr, subst, sym}
use Rattle.meter_server.specs.Program.{RefusesOn}
use Rattle.meter_server.specs.Remarks.{told_of}
use Rattle.meter_server.specs.Warning.{JudgesOn}
use Rattle.meter_server.specs.declared.outcome.Outcome.{Outcome}
use Rattle.meter_server.proofs.texts.checked.Goals as goal
use Rattle.meter_server.proofs.texts.checked.Goals.{in-Ok, in-Err}

pub returns : goal.returns
returns c =
    let outcome = c.match-accepted_of_texts.outcome in
    let judges : JudgesOn c.args.tells_all c.args.config c.args.labels c.args.made.0 c.args.made.1 outcome = elim c.match-accepted_of_texts.branch [
      | in-Ok w ↦ inr (w.in-Ok.ensures.admitted, (w.none.result, w.outcome-is, w.none.ensures))
      | in-Err w ↦ inl (subst (λ (o : Outcome). RefusesOn c.args.labels c.args.made.0 c.args.made.1 c.args.tells_all o) (sym w.outcome-is) w.in-Err.ensures.refused)
    ] in (outcome, judges, (told_of c.warnings_on-warnings.result, c.warnings_on-warnings.ensures, c.with_warnings.ensures))
