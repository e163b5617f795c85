use Rattle.std.proofs.Common.{sym, ap, ◌∙◌}
use Rattle.cosem_data.specs.View.{tree}
use Rattle.cosem_data.specs.TreeCode.{parts-trees}
use Rattle.meter_theory.specs.Times as times
use Rattle.config_warnings.proofs.dates.parts_of.Goals as goal

pub returns-in-Structure : goal.returns-in-Structure
returns-in-Structure c =
    c.as_slice.ensures ∙ sym (parts-trees c.in-Structure.parts) ∙ ap (λ v. times.parts_of (tree v)) (sym c.in-Structure.is)
