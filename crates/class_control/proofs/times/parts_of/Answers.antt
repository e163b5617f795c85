use Rattle.std.proofs.Common.{sym, ap, ◌∙◌}
use Rattle.cosem_data.specs.View.{tree}
use Rattle.cosem_data.specs.TreeCode.{parts-trees}
use Rattle.meter_theory.specs.Times as theory
use Rattle.class_control.proofs.times.parts_of.Goals as goal

pub returns-in-Structure : goal.returns-in-Structure
returns-in-Structure c =
    c.as_slice.ensures ∙ sym (parts-trees c.in-Structure.parts) ∙ ap (λ v. theory.parts_of (tree v)) (sym c.in-Structure.is)
