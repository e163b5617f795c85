use Rattle.std.proofs.Common.{◌≡◌, ℕ, Some, ◌∙◌, ap, sym, subst, map}
use Rattle.meter_theory.specs.Lists.{IsIn}
use Rattle.object_model.specs.Grants.{HasRoom, place_in}
use Rattle.object_model.specs.PlanView.{plan_of}
use Rattle.object_model.proofs.Referred.{reference-placed}
use Rattle.object_model.proofs.Room.{has-room}
use Rattle.object_model.proofs.plan.Plan.new.Goals as goal

pub new-requires-2-clause-room : goal.new-requires-2-clause-room
new-requires-2-clause-room c = λ r i.
    subst (λ names. HasRoom names r) (sym (c.in_ok-index.ensures ∙ c.in_ok-names_of.ensures ∙ ap (map (λ o. o.name)) c.deref.ensures.value))
    (has-room (plan_of c.args.parts) c.requires r (subst (λ rs. IsIn rs r) c.deref-2.ensures.value i))

pub new-requires-3 : goal.new-requires-3
new-requires-3 c = λ o i name j.
    subst (λ names. (k : ℕ) × (place_in names name ≡ Some k)) (sym (c.in_ok-index.ensures ∙ c.in_ok-names_of.ensures ∙ ap (map (λ o. o.name)) c.deref.ensures.value))
    (reference-placed (plan_of c.args.parts) c.requires o (subst (λ os. IsIn os o) c.deref-4.ensures.value i) name j)
