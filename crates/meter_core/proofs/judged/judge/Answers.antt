use Rattle.std.proofs.Common.{ap, sym, subst, ◌∙◌}
use Rattle.std.specs.Result.{result_err}
use Rattle.meter_theory.specs.Rights.{act_answer, set_answer}
use Rattle.object_model.specs.ArgumentView.{argument_of}
use Rattle.object_model.specs.Tables.{number_at}
use Rattle.association_views.specs.Permits.{permitted}
use Rattle.meter_core.specs.Judging.{Says}
use Rattle.meter_core.specs.StepView.{step_of}
use Rattle.meter_core.proofs.Permitted.{refuses}
use Rattle.meter_core.proofs.judged.judge.Goals as goal

pub returns-in-Set : goal.returns-in-Set
returns-in-Set c = subst (λ s. Says c.args.plan.now (step_of s) (record { refusal = c.err-refusal.result; number = c.number.result })) (sym c.in-Set.is) (record {
  refused = c.err-refusal.ensures.value ∙ ap result_err (c.permit_set_at.ensures
      ∙ ap (λ i. permitted (set_answer i.plan c.in-Set.client c.in-Set.attribute c.in-Set.selected (argument_of c.in-Set.value))) c.instance-instance.ensures) ∙ refuses _;
  named = c.number.ensures ∙ ap (λ i. number_at i.plan.objects i.name) c.instance-instance.ensures;
})

pub returns-in-Act : goal.returns-in-Act
returns-in-Act c = subst (λ s. Says c.args.plan.now (step_of s) (record { refusal = c.err-refusal-in-Act.result; number = c.number-in-Act.result })) (sym c.in-Act.is) (record {
  refused = c.err-refusal-in-Act.ensures.value ∙ ap result_err (c.permit_action_at.ensures
      ∙ ap (λ i. permitted (act_answer i.plan c.in-Act.client c.in-Act.method (argument_of c.in-Act.argument))) c.instance-instance-in-Act.ensures) ∙ refuses _;
  named = c.number-in-Act.ensures ∙ ap (λ i. number_at i.plan.objects i.name) c.instance-instance-in-Act.ensures;
})
