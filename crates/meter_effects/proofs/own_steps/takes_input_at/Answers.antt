use Rattle.std.proofs.Common.{ap, sym, ◌∙◌}
use Rattle.std.specs.Prelude.{◌&&◌, is_ok}
use Rattle.cosem_data.specs.Cells.{cell}
use Rattle.cosem_data.specs.View.{tree}
use Rattle.cosem_class.specs.Judged.{rule_answer}
use Rattle.meter_theory.specs.Steps.{meets_some}
use Rattle.meter_theory.specs.Plan.{rule_of}
use Rattle.meter_effects.proofs.Added.{passes-meets}
use Rattle.meter_effects.proofs.own_steps.takes_input_at.Goals as goal

pub returns-then-is_fed : goal.returns-then-is_fed
returns-then-is_fed c =
    let P = c.args.instance.now.plan in
    let x = c.args.cell.now in
    c.is_ok.ensures.value
    ∙ (ap is_ok (c.rule.ensures ∙ ap (λ n. rule_answer (rule_of P (cell x.class_id n x.index)) (tree c.args.given.now)) (sym c.requires))
    ∙ (passes-meets (rule_of P x) (tree c.args.given.now)
    ∙ ap (λ b. b && meets_some (rule_of P x) (tree c.args.given.now)) (sym c.if-is_fed.true ∙ c.is_fed.ensures)))
