use Rattle.std.proofs.Common.{◌≡◌, ◌∙◌, ap, sym, subst, option_and_then}
use Rattle.std.specs.List.{position_from}
use Rattle.meter_theory.specs.Sound.{IsSound}
use Rattle.object_model.specs.Stored.{stores}
use Rattle.object_model.proofs.Aligned.{there, by_owner, where-stored}
use Rattle.object_model.proofs.meter.place_of.Goals as goal
use Rattle.object_model.proofs.meter.place_of.Goals.{After-place}

-- where the cell is stored, by what the plan says of its name
stored : (c : After-place) → position_from (stores c.args.cell.now) 0 c.args.objects.now ≡ option_and_then (by_owner c.args.cell.now c.args.objects.now) c.place.result
stored c =
    where-stored c.args.objects.now c.args.instance.now.plan.objects c.requires.of_plan (subst IsSound c.plan.ensures c.known.ensures.sound).names c.args.cell.now
    c.args.instance.now.name c.requires.named
    ∙ ap (option_and_then (by_owner c.args.cell.now c.args.objects.now)) (sym c.place.ensures)

pub returns-in_err-place : goal.returns-in_err-place
returns-in_err-place c =
    c.from_residual.ensures
    ∙ sym (stored (goal.at.returns-in_err-place c).After-place ∙ ap (option_and_then (by_owner c.args.cell.now c.args.objects.now)) c.in_err-place.was)

pub returns : goal.returns
returns c =
    c.if_stored.ensures
    ∙ ap (λ k. there c.args.cell.now c.args.objects.now k k) c.from-owner.ensures
    ∙ sym (stored (goal.at.returns c).After-place ∙ ap (option_and_then (by_owner c.args.cell.now c.args.objects.now)) c.in_ok-place.was)
