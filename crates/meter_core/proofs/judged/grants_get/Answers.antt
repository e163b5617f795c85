use Rattle.std.proofs.Common.{ap, sym, ◌∙◌}
use Rattle.std.specs.Prelude.{is_ok}
use Rattle.meter_core.specs.Judging as spec
use Rattle.meter_core.specs.StepView.{step_of}
use Rattle.meter_core.proofs.Permitted.{permits}
use Rattle.meter_core.proofs.judged.grants_get.Goals as goal

pub returns-in-Get : goal.returns-in-Get
returns-in-Get c = c.is_ok.ensures.value ∙ ap is_ok c.permit_get.ensures ∙ permits _ ∙ ap (λ s. spec.grants_get c.args.plan.now (step_of s)) (sym c.in-Get.is)
