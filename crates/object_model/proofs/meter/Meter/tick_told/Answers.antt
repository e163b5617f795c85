use Rattle.std.proofs.Common.{Some, ◌∙◌, ap, ap₂, sym, subst, flat_map}
use Rattle.std.specs.List.{position_from}
use Rattle.meter_theory.specs.Plan.{clock_time}
use Rattle.object_model.specs.Stored.{stored_pairs, stores}
use Rattle.object_model.proofs.Inner.{objects-of, told_there, told_ticked, clock-named, TickedAt}
use Rattle.object_model.proofs.Kept.{stored-somewhere}
use Rattle.object_model.proofs.meter.Meter.tick_told.Goals as goal

pub place_of-requires-clause-of_plan : goal.place_of-requires-clause-of_plan
place_of-requires-clause-of_plan c =
    objects-of c.args.plan.now c.args.self.now c.self.inside.objects.items c.self.inside.inner_clock c.deref.result.now c.in-Some.clock.plan c.self.view_is c.requires.of_plan.cells
    c.deref.ensures.value c.in-Some.ensures.plan

pub unreachable-requires-in_default-place_of : goal.unreachable-requires-in_default-place_of
unreachable-requires-in_default-place_of c =
    let o = clock-named c.args.plan.now c.name-name.result (ap Some c.name-name.ensures ∙ c.in-Some.ensures.name) in
    stored-somewhere c.self.inside.objects.items (clock_time o.0.name)
    (told_there c.args.plan.now c.args.self.now c.self.inside.objects.items c.self.inside.inner_clock c.self.view_is c.requires.of_plan.cells o.0 o.1)
    (ap₂ (λ x ms. position_from (stores x) 0 ms) (ap clock_time (sym o.2) ∙ sym c.clock_time-cell.ensures) (sym c.deref.ensures.value) ∙ sym c.place_of.ensures ∙ c.in_default-place_of.is)

pub returns : goal.returns
returns c =
    let o = clock-named c.args.plan.now c.name-name.result (ap Some c.name-name.ensures ∙ c.in-Some.ensures.name) in
    told_ticked c.args.plan.now c.args.self.now c.self.inside.objects.items c.self.inside.inner_clock c.self.view_is c.requires.of_plan.cells o.0 (flat_map stored_pairs c.tick_in.new.objects.items) o.1
    (subst (λ n. TickedAt (flat_map stored_pairs c.self.inside.objects.items) (flat_map stored_pairs c.tick_in.new.objects.items) n) o.2 c.tick_in.ensures)
