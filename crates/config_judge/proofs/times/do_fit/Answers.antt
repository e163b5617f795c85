use Rattle.std.proofs.Common.{◌∙◌, ap, map, sym}
use Rattle.cosem_data.specs.TreeCode.{parts-trees}
use Rattle.cosem_data.specs.View.{tree}
use Rattle.meter_theory.specs.Times.{are_execution_times}
use Rattle.config_judge.proofs.times.do_fit.Goals as goal

pub returns : goal.returns
returns c =
    c.are_execution_times.ensures
    ∙ ap (λ times. are_execution_times c.args.execution_type (map tree times)) c.as_slice.ensures.value
    ∙ ap (are_execution_times c.args.execution_type) (c.in_ok-times.ensures ∙ sym (parts-trees _))
