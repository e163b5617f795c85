use Rattle.std.proofs.Common.{Some, ◌∙◌, ap, ap₂, sym, arith, flat_map}
use Rattle.std.specs.List.{position_from}
use Rattle.meter_theory.specs.Plan.{clock_time}
use Rattle.meter_theory.specs.State.{value}
use Rattle.meter_theory.specs.Times.{clock_moment}
use Rattle.object_model.specs.Stored.{stored_pairs, stores}
use Rattle.object_model.proofs.Positions.{first}
use Rattle.object_model.proofs.Changed.{split, same-name, value-in}
use Rattle.object_model.proofs.Inner.{objects-of, told_there, told_present, clock-named}
use Rattle.object_model.proofs.Kept.{stored-somewhere}
use Rattle.object_model.proofs.meter.Meter.told.Goals as goal

pub place_of-requires-clause-of_plan : goal.place_of-requires-clause-of_plan
place_of-requires-clause-of_plan c =
    objects-of c.args.plan.now c.args.self.now c.self.inside.objects.items c.self.inside.inner_clock c.deref.result.now c.in-Some.clock.plan c.self.view_is c.requires.of_plan.cells
    c.deref.ensures.value c.in-Some.ensures.plan

pub unreachable-requires-in_default-place_of : goal.unreachable-requires-in_default-place_of
unreachable-requires-in_default-place_of c =
    let o = clock-named c.args.plan.now c.name.result (ap Some c.name.ensures ∙ c.in-Some.ensures.name) in
    stored-somewhere c.self.inside.objects.items (clock_time o.0.name)
    (told_there c.args.plan.now c.args.self.now c.self.inside.objects.items c.self.inside.inner_clock c.self.view_is c.requires.of_plan.cells o.0 o.1)
    (ap₂ (λ x ms. position_from (stores x) 0 ms) (ap clock_time (sym o.2) ∙ sym c.clock_time-cell.ensures) (sym c.deref.ensures.value) ∙ sym c.place_of.ensures ∙ c.in_default-place_of.is)

pub index-requires : goal.index-requires
index-requires c =
    let at = first (stores c.clock_time-cell.result) c.self.inside.objects.items c.in-Some-place_of.place
    (ap (position_from (stores c.clock_time-cell.result) 0) (sym c.deref.ensures.value) ∙ sym c.place_of.ensures ∙ c.in-Some-place_of.is) in
    omega (arith, at.within)

pub moment-requires : goal.moment-requires
moment-requires c =
    let x = c.clock_time-cell.result in
    let ms = c.self.inside.objects.items in
    let s = split ms x c.in-Some-place_of.place c.index.result.now
    (ap (position_from (stores x) 0) (sym c.deref.ensures.value) ∙ sym c.place_of.ensures ∙ c.in-Some-place_of.is) in
    let name = same-name ms x c.in-Some-place_of.place c.index.result.now s c.index.ensures in
    ap (λ n. stores (clock_time n) c.index.result.now) (name ∙ ap (λ z. z.name) c.clock_time-cell.ensures)
    ∙ ap (λ y. stores y c.index.result.now) (sym c.clock_time-cell.ensures) ∙ ap (stores x) c.index.ensures ∙ s.here

pub returns : goal.returns
returns c =
    let x = c.clock_time-cell.result in
    let ms = c.self.inside.objects.items in
    let s = split ms x c.in-Some-place_of.place c.index.result.now
    (ap (position_from (stores x) 0) (sym c.deref.ensures.value) ∙ sym c.place_of.ensures ∙ c.in-Some-place_of.is) in
    let name = same-name ms x c.in-Some-place_of.place c.index.result.now s c.index.ensures in
    let o = clock-named c.args.plan.now c.name.result (ap Some c.name.ensures ∙ c.in-Some.ensures.name) in
    c.moment.ensures
    ∙ ap (λ n. clock_moment (value (stored_pairs c.index.result.now) (clock_time n))) (name ∙ ap (λ z. z.name) c.clock_time-cell.ensures)
    ∙ ap (λ y. clock_moment (value (stored_pairs c.index.result.now) y)) (sym c.clock_time-cell.ensures)
    ∙ ap (λ m. clock_moment (value (stored_pairs m) x)) c.index.ensures
    ∙ ap clock_moment (sym (value-in ms x c.in-Some-place_of.place c.index.result.now s))
    ∙ ap (λ y. clock_moment (value (flat_map stored_pairs ms) y)) (c.clock_time-cell.ensures ∙ ap clock_time o.2)
    ∙ told_present c.args.plan.now c.args.self.now ms c.self.inside.inner_clock c.self.view_is c.requires.of_plan.cells o.0 o.1
