use Rattle.std.proofs.Common.{inr}
use Rattle.meter_server.proofs.comparing.compare_with.Goals as goal

pub returns-in-Ok : goal.returns-in-Ok
returns-in-Ok g c = inr ((c.in-Ok.plan, c.in-Ok.policy), c.in-Ok.ensures, c.write_between.result, c.write_between.ensures, c.compared.ensures)
