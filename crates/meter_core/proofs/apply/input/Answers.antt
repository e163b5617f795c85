use Rattle.std.specs.Prelude.{◌≡◌, ◌&&◌, true}
use Rattle.std.proofs.Common.{ap, sym, subst, ◌∙◌}
use Rattle.cosem_data.specs.View.{tree}
use Rattle.meter_theory.specs.States.{MayStand}
use Rattle.meter_theory.specs.Steps.{effects, is_fed, meets_some, write}
use Rattle.meter_theory.specs.Plan.{rule_of}
use Rattle.meter_effects.proofs.Added.{input_meant, input_may}
use Rattle.meter_core.proofs.apply.input.Goals as goal

pub put-undo-requires-clause-fits : goal.put-undo-requires-clause-fits
put-undo-requires-clause-fits c =
    let takes = sym c.takes_input_at.ensures ∙ search in
    subst (λ v. MayStand c.instance-instance.result.plan c.args.cell.now (tree v)) (sym c.in_ok-given.ensures)
    (input_may c.instance-instance.result.plan c.args.cell.now (tree c.args.measured.now) takes)

pub returns-clause-ok : goal.returns-clause-ok
returns-clause-ok c =
    let takes = sym c.takes_input_at.ensures ∙ search in
    let at = subst (λ i. (is_fed i.plan c.args.cell.now && meets_some (rule_of i.plan c.args.cell.now) (tree c.args.measured.now)) ≡ true) c.instance-instance.ensures takes in
    c.put-undo.ensures.put
    ∙ (ap (λ v. write c.args.meter.now c.args.cell.now (tree v)) c.in_ok-given.ensures
    ∙ ap (effects c.args.plan.now c.args.meter.now) (input_meant c.args.plan.now c.args.meter.now c.args.cell.now (tree c.args.measured.now) at))
