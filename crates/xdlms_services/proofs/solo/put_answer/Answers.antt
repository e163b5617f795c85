use Rattle.std.proofs.Common.{refl, sym, subst}
use Rattle.meter_theory.specs.Replies.{Reply, Value, Code, Quiet, reply_to}
use Rattle.meter_theory.specs.Steps as steps
use Rattle.meter_core.specs.StepView.{selection_of}
use Rattle.xdlms_services.specs.Replies.{CanReply}
use Rattle.xdlms_services.specs.declared.writing.Service.TheVariants as services
use Rattle.xdlms_services.specs.Conversation.{CanSend}
use Rattle.xdlms_services.proofs.Sendable.{reply-sendable}
use Rattle.xdlms_services.proofs.solo.put_answer.Goals as goal

can_reply : (reply : Reply) → CanSend services.Get reply → CanReply services.Get reply
can_reply (Value v) h = h.0
can_reply (Code code) h = tt
can_reply Quiet h = absurd h

pub write_shown-requires : goal.write_shown-requires
write_shown-requires c =
    let step = steps.Get c.in-Get.client c.in-Get.attribute (selection_of c.in-Get.selection) in
    subst (CanReply services.Get) (sym c.in_ok-shown-in-Get.ensures.reply)
    (can_reply (reply_to c.args.plan.now c.args.meter.now step) (reply-sendable c.args.plan.now c.known.ensures.sound c.args.meter.now c.requires.state step services.Get refl))
