use Rattle.std.proofs.Common.{ap, sym, ◌∙◌}
use Rattle.std.specs.Prelude.{is_ok}
use Rattle.meter_core.specs.StepView.{step_of}
use Rattle.meter_core.specs.Changing.{is_changing}
use Rattle.meter_core.proofs.Permitted.{permits}
use Rattle.meter_core.proofs.changing.is_change.Goals as goal

pub returns-in-Set : goal.returns-in-Set
returns-in-Set c = c.is_ok.ensures.value ∙ ap is_ok c.permit_set.ensures ∙ permits _ ∙ ap (λ s. is_changing c.args.plan.now (step_of s)) (sym c.in-Set.is)

pub returns-in-Act : goal.returns-in-Act
returns-in-Act c = c.is_ok-in-Act.ensures.value ∙ ap is_ok c.permit_action.ensures ∙ permits _ ∙ ap (λ s. is_changing c.args.plan.now (step_of s)) (sym c.in-Act.is)
