use Rattle.std.proofs.Common.{ap, sym, ◌∙◌}
use Rattle.std.proofs.lemmas.Result.{IfOk-weaker, IfOk-equal}
use Rattle.meter_theory.specs.Replies.{reply_to}
use Rattle.meter_theory.specs.Steps.{effects, next}
use Rattle.object_model.specs.ArgumentView.{argument_of, selection_of}
use Rattle.meter_core.specs.Judging as spec
use Rattle.meter_core.specs.Memory.{needs_no_memory}
use Rattle.meter_core.specs.StepView.{step_of}
use Rattle.meter_core.proofs.Answered.{act_calls, act_calls_none, act_replies, code_shown, set_fits, set_puts, set_replies, set_takes_memory}
use Rattle.meter_core.proofs.apply.apply_granted.Goals as goal

pub returns-in_err-into_reply-in-Get-clause-denied : goal.returns-in_err-into_reply-in-Get-clause-denied
returns-in_err-into_reply-in-Get-clause-denied c = λ needs.
    let is_ok = c.in_err-into_reply-in-Get.ensures.bare
    (code_shown c.args.plan.now c.args.meter.now c.in-Get.client c.in-Get.attribute (selection_of c.in-Get.selection) c.in_ok-shown-in-Get.shown c.in_ok-shown-in-Get.ensures.reply
    (ap (λ step. needs_no_memory c.args.plan.now c.args.meter.now (step_of step)) (sym c.in-Get.is) ∙ needs)) in cc

pub set-requires-clause-fits : goal.set-requires-clause-fits
set-requires-clause-fits c =
    set_fits c.args.plan.now c.in-Set.client c.in-Set.attribute c.in-Set.selected (argument_of c.in-Set.value)
    (c.requires.granted ∙ ap (λ step. spec.refusal c.args.plan.now (step_of step)) c.in-Set.is)

pub returns-in-Set-clause-ok : goal.returns-in-Set-clause-ok
returns-in-Set-clause-ok c =
    let granted = c.requires.granted ∙ ap (λ step. spec.refusal c.args.plan.now (step_of step)) c.in-Set.is in
    IfOk-equal c.set.result _ _ _ c.set.ensures.ok
    (set_puts c.args.plan.now c.args.meter.now c.in-Set.client c.in-Set.attribute c.in-Set.selected (argument_of c.in-Set.value) granted
    ∙ ap (λ step. next c.args.plan.now c.args.meter.now (step_of step)) (sym c.in-Set.is))

pub returns-in-Set-clause-reply : goal.returns-in-Set-clause-reply
returns-in-Set-clause-reply c =
    let granted = c.requires.granted ∙ ap (λ step. spec.refusal c.args.plan.now (step_of step)) c.in-Set.is in
    IfOk-weaker c.set.result _ _
    (λ applied is. is
    ∙ (set_replies c.args.plan.now c.args.meter.now c.in-Set.client c.in-Set.attribute c.in-Set.selected (argument_of c.in-Set.value) granted
    ∙ ap (λ step. reply_to c.args.plan.now c.args.meter.now (step_of step)) (sym c.in-Set.is)))
    c.set.ensures.reply

pub returns-in-Set-clause-denied : goal.returns-in-Set-clause-denied
returns-in-Set-clause-denied c = λ needs.
    set_takes_memory c.args.plan.now c.args.meter.now c.in-Set.client c.in-Set.attribute c.in-Set.selected (argument_of c.in-Set.value)
    (c.requires.granted ∙ ap (λ step. spec.refusal c.args.plan.now (step_of step)) c.in-Set.is)
    (ap (λ step. needs_no_memory c.args.plan.now c.args.meter.now (step_of step)) (sym c.in-Set.is) ∙ needs)

pub returns-in-Act-clause-ok : goal.returns-in-Act-clause-ok
returns-in-Act-clause-ok c =
    let granted = c.requires.granted ∙ ap (λ step. spec.refusal c.args.plan.now (step_of step)) c.in-Act.is in
    IfOk-equal c.act.result _ _ _ c.act.ensures.ok
    (ap (effects c.args.plan.now c.args.meter.now) (act_calls c.args.plan.now c.args.meter.now c.in-Act.client c.in-Act.method (argument_of c.in-Act.argument) granted)
    ∙ ap (λ step. next c.args.plan.now c.args.meter.now (step_of step)) (sym c.in-Act.is))

pub returns-in-Act-clause-reply : goal.returns-in-Act-clause-reply
returns-in-Act-clause-reply c =
    let granted = c.requires.granted ∙ ap (λ step. spec.refusal c.args.plan.now (step_of step)) c.in-Act.is in
    IfOk-weaker c.act.result _ _
    (λ applied is. is
    ∙ (act_replies c.args.plan.now c.args.meter.now c.in-Act.client c.in-Act.method (argument_of c.in-Act.argument) granted
    ∙ ap (λ step. reply_to c.args.plan.now c.args.meter.now (step_of step)) (sym c.in-Act.is)))
    c.act.ensures.reply

pub returns-in-Act-clause-denied : goal.returns-in-Act-clause-denied
returns-in-Act-clause-denied c = λ needs.
    c.act.ensures.none
    (act_calls_none c.args.plan.now c.args.meter.now c.in-Act.client c.in-Act.method (argument_of c.in-Act.argument)
    (c.requires.granted ∙ ap (λ step. spec.refusal c.args.plan.now (step_of step)) c.in-Act.is)
    (ap (λ step. needs_no_memory c.args.plan.now c.args.meter.now (step_of step)) (sym c.in-Act.is) ∙ needs))
