use Rattle.std.proofs.Common.{sym, ap, ◌∙◌}
use Rattle.cosem_data.specs.View.{tree}
use Rattle.cosem_data.specs.TreeCode.{parts-trees}
use Rattle.meter_theory.specs.Value.{elements}
use Rattle.class_control.proofs.judge.elements_of.Goals as goal

pub returns-in-Array : goal.returns-in-Array
returns-in-Array c =
    c.as_slice.ensures ∙ sym (parts-trees c.in-Array.elements) ∙ ap (λ v. elements (tree v)) (sym c.in-Array.is)
