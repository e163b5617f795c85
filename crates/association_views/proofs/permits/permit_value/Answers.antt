use Rattle.std.proofs.Common.{ap, sym, ◌∙◌}
use Rattle.cosem_data.specs.Cells.{cell}
use Rattle.cosem_data.specs.View.{tree}
use Rattle.cosem_class.specs.Judged.{rule_answer}
use Rattle.meter_theory.specs.Plan.{rule_of}
use Rattle.object_model.specs.ArgumentView.{argument_of}
use Rattle.association_views.specs.Permits.{permitted, value_code}
use Rattle.association_views.proofs.Codes.{rule_permits}
use Rattle.association_views.proofs.permits.permit_value.Goals as goal

pub returns-in-Value : goal.returns-in-Value
returns-in-Value c =
    let P = c.args.instance.now.plan in
    let x = c.args.cell.now in
    c.rule.ensures
    ∙ (ap (λ name. rule_answer (rule_of P (cell x.class_id name x.index)) (tree c.in-Value.value)) (sym c.requires)
    ∙ (rule_permits (rule_of P x) (tree c.in-Value.value) ∙ ap (λ v. permitted (value_code (rule_of P x) (argument_of v))) (sym c.in-Value.is)))
