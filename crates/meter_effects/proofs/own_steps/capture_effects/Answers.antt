use Rattle.std.proofs.Common.{◌≡◌, sym, subst, ap, ◌∙◌, ◌∷◌, [], Some}
use Rattle.meter_theory.specs.Plan.{object_at}
use Rattle.meter_theory.specs.Steps.{Capture, Captures, captures_of}
use Rattle.class_profile.specs.PartView.{captures_of_part}
use Rattle.meter_effects.proofs.Added.{stands_for, capture_meant}
use Rattle.meter_effects.proofs.own_steps.capture_effects.Goals as goal

pub returns-clause-ok : goal.returns-clause-ok
returns-clause-ok c =
    let P = c.args.instance.now.plan in
    let part = c.in-Some.field-0.now in
    let captures : Captures = record { captured = captures_of_part part; entries = part.profile_entries } in
    stands_for P _ _ c.new-effects.result.items c.push_effect.new.effects.items c.new-effects.ensures.items
    (ap (λ n. Capture n ∷ []) c.name.ensures
    ∙ capture_meant P c.args.meter.now c.args.instance.now.name c.args.moment captures c.requires.present c.in-Some.ensures (sym c.is_period_over.ensures ∙ search))
    (c.in_ok-push_effect.ensures P (captures, subst (λ n. captures_of (object_at P n) ≡ Some captures) (sym c.name.ensures) (sym c.in-Some.ensures)))
