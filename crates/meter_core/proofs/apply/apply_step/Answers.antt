use Rattle.meter_core.proofs.Answered.{nothing_said}
use Rattle.meter_core.proofs.apply.apply_step.Goals as goal

pub apply_granted-requires-clause-granted : goal.apply_granted-requires-clause-granted
apply_granted-requires-clause-granted c = (nothing_said c.args.plan.now c.args.step.now c.in_default.not-Set c.in_default.not-Act).0

pub apply_granted-requires-clause-named : goal.apply_granted-requires-clause-named
apply_granted-requires-clause-named c = (nothing_said c.args.plan.now c.args.step.now c.in_default.not-Set c.in_default.not-Act).1
