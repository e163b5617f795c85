use Rattle.meter_core.specs.StepView.{step_of}
use Rattle.meter_theory.specs.Replies.{reply_to}
use Rattle.xdlms_services.proofs.Sendable.{reply-sendable, replied-sendable}
use Rattle.xdlms_services.proofs.solo.SoloAsker.ask.Goals as goal

pub returns-clause-sendable : goal.returns-clause-sendable
returns-clause-sendable c =
    replied-sendable (step_of c.args.step) c.apply.result (reply_to c.self.inside.plan.now c.self.inside.meter (step_of c.args.step)) c.apply.ensures.reply
    (reply-sendable c.self.inside.plan.now c.known.ensures.sound c.self.inside.meter c.self.invariant (step_of c.args.step))
