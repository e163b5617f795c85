use Rattle.std.proofs.Common.{◌≡◌, ap, ap₂, subst, sym, ◌∙◌, ◌∷◌, [], ◌++◌, flat_map}
use Rattle.cosem_data.specs.View.{tree}
use Rattle.cosem_data.specs.Kinds.{kind_of}
use Rattle.meter_theory.specs.Plan.{RegisterMonitor, object_at, start_values, seen, thresholds}
use Rattle.meter_theory.specs.State.{value}
use Rattle.meter_theory.specs.States.{Fits}
use Rattle.meter_theory.specs.Sound.{IsSound}
use Rattle.meter_theory.specs.Steps.{Evaluate, Put, due_scripts, effects_of, effects_of_script}
use Rattle.meter_theory.specs.Value.{OfKind, elements, meets}
use Rattle.object_model.specs.PartView.{part_of}
use Rattle.meter_effects.specs.Adds.{Adds}
use Rattle.meter_effects.proofs.Added.{stands_for, adds_more, evaluation_meant, monitored_fits, remember_may}
use Rattle.meter_effects.proofs.own_steps.evaluation_effects.Goals as goal

pub returns-clause-ok : goal.returns-clause-ok
returns-clause-ok c =
    let P = c.args.instance.now.plan in
    let s = c.args.meter.now in
    let n = c.name-name.result in
    let m = c.in-RegisterMonitor.part in
    let found = c.in-Some.ensures ∙ ap (object_at P) (sym c.name-name.ensures) in
    let part : c.in-Some.object.now.part ≡ RegisterMonitor m.monitored_value (tree m.start) m.actions.items = sym c.part.ensures ∙ ap part_of c.in-RegisterMonitor.is in
    let actions = m.actions.items in
    let now : tree c.in_ok-now.now ≡ value s m.monitored_value = c.in_ok-now.ensures in
    let scripts : c.deref.result.now ≡ due_scripts actions (elements (value s (thresholds n))) (value s (seen n)) (value s m.monitored_value)
    = c.deref.ensures.value
    ∙ (c.in_ok-due.ensures
    ∙ (ap (λ v. due_scripts actions (elements v) (tree c.in_ok-value_at-2.field-0) (tree c.in_ok-now.now)) (c.in_ok-value_at.ensures ∙ ap (value s) c.thresholds.ensures)
    ∙ (ap (λ v. due_scripts actions (elements (value s (thresholds n))) v (tree c.in_ok-now.now)) (c.in_ok-value_at-2.ensures ∙ ap (value s) c.seen.ensures)
    ∙ ap (λ v. due_scripts actions (elements (value s (thresholds n))) (value s (seen n)) v) c.in_ok-now.ensures))) in
    let fits = monitored_fits P s n c.in-Some.object.now m.monitored_value (tree m.start) actions (subst IsSound c.plan-plan.ensures c.known.ensures.sound) c.requires found part in
    let may : Fits P (Put (seen n) (tree c.in_ok-now.now))
    = remember_may P n c.in-Some.object.now m.monitored_value (tree m.start) actions (tree c.in_ok-now.now) found part
    (ap (meets (OfKind (kind_of (value (start_values P) m.monitored_value)))) now ∙ fits) in
    stands_for P _ _ c.new-effects.result.items c.push_effect.new.effects.items c.new-effects.ensures.items
    (ap₂ (λ rs v. flat_map (effects_of_script P) rs ++ Put (seen n) v ∷ []) scripts now
    ∙ evaluation_meant P s n c.in-Some.object.now m.monitored_value (tree m.start) actions found part
    ∙ ap (λ m. effects_of P s (Evaluate m)) c.name-name.ensures)
    (adds_more P _ _ c.new-effects.result.items c.push_scripts.new.effects.items c.push_effect.new.effects.items
    (subst (λ Q. Adds Q (flat_map (effects_of_script Q) c.deref.result.now) c.new-effects.result.items c.push_scripts.new.effects.items) c.plan-plan.ensures c.in_ok-push_scripts.ensures)
    (c.in_ok-push_effect.ensures P may))
