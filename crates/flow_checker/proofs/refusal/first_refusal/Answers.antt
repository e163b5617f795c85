use Rattle.std.proofs.Common.{◌≡◌, ◌∙◌, ap, ap₂, rules, subst, sym}
use Rattle.std.specs.Prelude.{option_map, slice_get}
use Rattle.meter_theory.specs.Labels.{Labelling, labelling_of_policy}
use Rattle.flow_checker.specs.Answer.{IsAnswer, refusal_of}
use Rattle.flow_checker.specs.Failures.{failures}
use Rattle.flow_checker.proofs.FirstFails.{answer}
use Rattle.flow_checker.proofs.refusal.first_refusal.Goals as goal

pub returns : goal.returns
returns c =
    let P = c.args.map.now.plan in
    let policy : Labelling = labelling_of_policy P c.args.map.now.policy in
    let labels = c.args.labels.now in
    let of : c.map.result ≡ option_map refusal_of c.in_ok-first.first = search rules in
    let first : c.in_ok-first.first ≡ slice_get (failures P policy labels) 0 =
    c.in_ok-first.ensures ∙ ap₂ (λ map given. slice_get (failures map.plan (labelling_of_policy map.plan map.policy) given) 0) c.in_ok-new.ensures.map c.in_ok-new.ensures.labels in
    subst (IsAnswer P policy labels) (sym (of ∙ ap (option_map refusal_of) first)) (answer P policy labels)
