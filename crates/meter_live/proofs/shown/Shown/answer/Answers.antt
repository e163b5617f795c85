use Rattle.std.proofs.Common.{ap, sym, ◌∙◌}
use Rattle.meter_core.specs.Memory.{needs_no_memory}
use Rattle.meter_core.specs.StepView.{selection_of, step_of}
use Rattle.meter_core.proofs.Answered.{code_shown}
use Rattle.meter_live.proofs.shown.Shown.answer.Goals as goal

pub returns-clause-denied : goal.returns-clause-denied
returns-clause-denied c = λ needs.
    let plan_is = c.plan.ensures ∙ ap (λ s. s.accepted.plan) c.self.view_is in
    let state_is = ap (λ s. s.state) c.self.view_is in
    c.into_reply.ensures.bare
    (code_shown c.plan.result.now c.self.inside.meter c.in-Get.client c.in-Get.attribute (selection_of c.in-Get.selection) c.in_ok-show-in-Get.field-0 c.in_ok-show-in-Get.ensures.reply
    ((λ i. needs_no_memory (plan_is i) (state_is i) (step_of (sym c.in-Get.is i))) ∙ needs))
