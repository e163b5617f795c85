use Rattle.std.proofs.Common.{◌+◌, ◌∷◌, [], ◌++◌, cond, ap, ◌∙◌}
use Rattle.flow_map.proofs.Ranges.{flat-next}
use Rattle.flow_map.specs.Outline.{AtName}
use Rattle.meter_theory.specs.Rights.{is_granted}
use Rattle.flow_page.specs.Objects.{index_if}
use Rattle.flow_page.proofs.view.held.indexes.Goals as goal

pub loop-place-preserved : goal.loop-place-preserved
loop-place-preserved c =
    let P = c.args.plan.now in
    let index = c.loop-place.place + 1 in
    let allowed =
    c.is_granted-allowed.ensures
    ∙ (ap (λ (i : AtName). is_granted i.plan c.args.client c.args.access i.name index) c.rights_at-instance.ensures
    ∙ ap (λ n. is_granted P c.args.client c.args.access n index) c.name.ensures) in
    flat-next (index_if (is_granted P c.args.client c.args.access c.args.object.now.name)) c.loop-place.place c.loop-place.list.items c.push_if.new.list.items c.loop-place.invariant
    (c.in_ok-push_if.ensures ∙ ap (λ b. c.loop-place.list.items ++ cond b (index ∷ []) []) allowed)
