use Rattle.std.proofs.Common.{◌∙◌}
use Rattle.meter_core.specs.StepView.{step_of}
use Rattle.meter_live.proofs.Changing.{unchanged}
use Rattle.meter_live.proofs.traced.answer.Goals as goal

pub returns-clause-same : goal.returns-clause-same
returns-clause-same c = c.in_ok-reply.ensures.ok ∙ unchanged c.args.plan.now c.args.meter.now (step_of c.args.judged.now.step) c.requires.quiet
