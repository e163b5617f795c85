use Rattle.std.proofs.Common.{Some, inr, refl}
use Rattle.meter_theory.specs.Labels.{Policy}
use Rattle.meter_theory.specs.Plan.{Plan}
use Rattle.meter_server.proofs.reporting.report_after.Goals as goal

pub returns-in-Ok : goal.returns-in-Ok
returns-in-Ok g c =
    let made : Plan × Policy = (c.in-Ok.plan, c.in-Ok.policy) in
    inr (Some made, (made, c.in-Ok.ensures, refl), c.report_beside.ensures)
