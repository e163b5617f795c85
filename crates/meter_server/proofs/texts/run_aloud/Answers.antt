use Rattle.line_server.proofs.Alone.{stops-at_start}
use Rattle.meter_server.proofs.texts.run_aloud.Goals as goal

pub returns-in_default : goal.returns-in_default
returns-in_default g c = stops-at_start c.args.plan.now _
