use Rattle.meter_core.proofs.Clocks.{set_back}
use Rattle.meter_core.proofs.apply.clock_at.Goals as goal

pub returns-clause-before : goal.returns-clause-before
returns-clause-before c = set_back c.args.plan.now c.args.meter.now c.set_clock.new.self c.args.moment c.present-stood.result c.requires c.present-stood.ensures c.set_clock.ensures
