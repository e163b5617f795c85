use Rattle.meter_core.proofs.Clocks.{tick_back}
use Rattle.meter_core.proofs.apply.tick.Goals as goal

pub returns-clause-before : goal.returns-clause-before
returns-clause-before c = tick_back c.args.plan.now c.args.meter.now c.tick.new.self c.present-stood.result c.requires c.present-stood.ensures c.tick.ensures
