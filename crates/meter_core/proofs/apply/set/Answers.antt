use Rattle.std.proofs.Common.{sym, subst, ap, ◌∙◌}
use Rattle.cosem_data.specs.View.{tree}
use Rattle.meter_theory.specs.States.{MayStand}
use Rattle.meter_theory.specs.Rights.{cell_of}
use Rattle.meter_theory.specs.Steps.{effects, given_value, write}
use Rattle.object_model.specs.ArgumentView.{argument_of}
use Rattle.meter_core.specs.Judging.{MayBeSet}
use Rattle.meter_core.proofs.Answered.{nothing_given}
use Rattle.meter_core.proofs.apply.set.Goals as goal

pub put-undo-requires-clause-fits : goal.put-undo-requires-clause-fits
put-undo-requires-clause-fits c =
    subst (λ i. MayStand i.plan c.attribute.result (tree c.in_ok-given.given)) (sym c.instance_at-instance.ensures)
    (subst (λ x. MayStand c.args.plan.now x (tree c.in_ok-given.given)) (sym c.attribute.ensures)
    (subst (λ v. MayStand c.args.plan.now (cell_of c.args.attribute.now) (tree v)) (sym c.in_ok-given.ensures)
    (subst (λ v. MayBeSet c.args.plan.now (cell_of c.args.attribute.now) (argument_of v)) c.in-Value.is c.requires.fits)))

pub returns-clause-ok : goal.returns-clause-ok
returns-clause-ok c =
    c.put-undo.ensures.put
    ∙ (ap (λ x. write c.args.meter.now x (tree c.in_ok-given.given)) c.attribute.ensures
    ∙ (ap (λ v. write c.args.meter.now (cell_of c.args.attribute.now) (tree v)) c.in_ok-given.ensures
    ∙ ap (λ v. effects c.args.plan.now c.args.meter.now (given_value (cell_of c.args.attribute.now) (argument_of v))) (sym c.in-Value.is)))

pub returns-in_default-clause-ok : goal.returns-in_default-clause-ok
returns-in_default-clause-ok c = nothing_given c.args.plan.now c.args.meter.now (cell_of c.args.attribute.now) c.args.value.now c.in_default.not-Value
