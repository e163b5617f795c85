use Rattle.std.proofs.Common.{ap, sym, ◌∙◌}
use Rattle.meter_core.specs.StepView.{reply_of, step_of}
use Rattle.meter_core.proofs.Answered.{refused_replies, refused_stays}
use Rattle.meter_core.proofs.apply.apply_by.Goals as goal

pub returns-in-Some-clause-ok : goal.returns-in-Some-clause-ok
returns-in-Some-clause-ok c = refused_stays c.args.plan.now c.args.meter.now (step_of c.args.step.now) c.in-Some.code (sym c.in-Some.is ∙ c.requires.judged.refused)

pub returns-in-Some-clause-reply : goal.returns-in-Some-clause-reply
returns-in-Some-clause-reply c = ap reply_of c.unchanged.ensures.0 ∙ refused_replies c.args.plan.now c.args.meter.now (step_of c.args.step.now) c.in-Some.code (sym c.in-Some.is ∙ c.requires.judged.refused)
