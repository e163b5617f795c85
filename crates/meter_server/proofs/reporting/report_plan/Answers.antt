use Rattle.std.proofs.Common.{inr}
use Rattle.meter_server.proofs.reporting.report_plan.Goals as goal

pub returns-in-Ok : goal.returns-in-Ok
returns-in-Ok g c = inr (c.in-Ok.labels, c.in-Ok.ensures, c.report_against.ensures)
