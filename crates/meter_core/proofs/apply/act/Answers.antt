use Rattle.std.specs.Prelude.{◌≡◌, List, []}
use Rattle.std.proofs.Common.{sym, subst, ap, ap₂, ◌∙◌, map, ◌++◌}
use Rattle.cosem_data.specs.declared.cell.MethodRef.{MethodRef}
use Rattle.meter_theory.specs.Plan.{Plan}
use Rattle.meter_theory.specs.Rights.{Argument}
use Rattle.meter_theory.specs.Steps.{effects, method_effects}
use Rattle.object_model.specs.ArgumentView.{argument_of}
use Rattle.object_model.specs.EffectView.{effect_of, MayTakeAll}
use Rattle.object_model.specs.declared.effect.Effect.{Effect}
use Rattle.meter_effects.specs.Adds.{Adds}
use Rattle.meter_effects.proofs.Added.{none_stands}
use Rattle.meter_core.proofs.apply.act.Goals as goal

-- what a method added to no effects stands for its effects
called : (P Q : Plan) (m n : MethodRef) (argument : Argument) (old new : List Effect) → Adds Q (method_effects Q m argument) old new → old ≡ [] → Q ≡ P → m ≡ n → map effect_of new ≡ method_effects P n argument
called P Q m n argument old new added none of_plan of_method =
    added.effects ∙ ap (λ es. map effect_of es ++ method_effects Q m argument) none ∙ ap₂ (λ R k. method_effects R k argument) of_plan of_method

pub apply_all-requires-clause-fits : goal.apply_all-requires-clause-fits
apply_all-requires-clause-fits c = c.in_ok-push_method.ensures.ok.fits (subst (MayTakeAll c.instance_at-instance.result.plan) (sym c.new-effects.ensures.items) tt)

pub returns-clause-ok : goal.returns-clause-ok
returns-clause-ok c =
    let P = c.args.plan.now in
    c.in_ok-undos.ensures.ok
    ∙ ap (λ i. effects i.plan c.args.meter.now (map effect_of c.push_method.new.effects.items)) c.instance_at-instance.ensures
    ∙ ap (effects P c.args.meter.now)
    (called P c.instance_at-instance.result.plan c.method.result _ (argument_of c.args.argument.now) _ _ c.in_ok-push_method.ensures.ok c.new-effects.ensures.items
    (ap (λ i. i.plan) c.instance_at-instance.ensures) c.method.ensures)

pub returns-in_err-push_method-clause-none : goal.returns-in_err-push_method-clause-none
returns-in_err-push_method-clause-none c = λ none.
    let argument = argument_of c.args.argument.now in
    let is_ok = c.in_err-push_method.ensures.none
    (ap (λ i. method_effects i.plan c.method.result argument) c.instance_at-instance.ensures
    ∙ (ap (λ m. method_effects c.args.plan.now m argument) c.method.ensures ∙ none)) in cc

pub returns-in_err-undos-clause-none : goal.returns-in_err-undos-clause-none
returns-in_err-undos-clause-none c = λ none.
    let is_ok = c.in_err-undos.ensures.none
    (none_stands c.push_method.new.effects.items
    (called c.args.plan.now c.instance_at-instance.result.plan c.method.result _ (argument_of c.args.argument.now) _ _ c.in_ok-push_method.ensures.ok c.new-effects.ensures.items
    (ap (λ i. i.plan) c.instance_at-instance.ensures) c.method.ensures ∙ none)) in cc
