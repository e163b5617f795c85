use Rattle.meter_core.specs.StepView.{step_of}
use Rattle.meter_core.proofs.Answered.{applied_keeps}
use Rattle.meter_core.proofs.apply.apply.Goals as goal

pub returns-clause-state : goal.returns-clause-state
returns-clause-state c =
    applied_keeps c.args.plan.now c.args.meter.now c.apply_step.new.meter (step_of c.args.step.now) c.apply_step.result c.known.ensures.sound c.requires c.apply_step.ensures.ok c.apply_step.ensures.err
