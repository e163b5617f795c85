use Rattle.std.proofs.Common.{◌≡◌, ◌∙◌, map, refl, ap, ap₂, sym, subst, true, flat_map}
use Rattle.std.specs.List.{position_from}
use Rattle.meter_theory.specs.Menus.{capture_objects_value}
use Rattle.meter_theory.specs.Lists.{IsIn}
use Rattle.meter_theory.specs.Plan.{buffer, capture_objects, cells}
use Rattle.meter_theory.specs.Steps.{capture, captured_in}
use Rattle.meter_theory.specs.State.{value}
use Rattle.meter_theory.proofs.Menus.{chosen-in}
use Rattle.class_profile.specs.PartView.{captures_of_part}
use Rattle.class_profile.specs.ProfileClass.{is_buffer}
use Rattle.class_profile.specs.ProfileStates.{is_buffer-of_state}
use Rattle.object_model.specs.Stored.{captured, stored_pairs, stores}
use Rattle.object_model.proofs.Inner.{inner_there, inner_value, inner_captured, objects-of, around, back-around}
use Rattle.object_model.proofs.Kept.{profile_holds, profile-there, stored-somewhere}
use Rattle.object_model.proofs.meter.Meter.capture.Goals as goal

pub unreachable-requires-in_default-place_of : goal.unreachable-requires-in_default-place_of
unreachable-requires-in_default-place_of c =
    let P = c.args.instance.now.plan in
    stored-somewhere c.self.inside.objects.items (buffer c.name-profile.result)
    (inner_there P c.args.self.now c.self.inside.objects.items c.self.inside.inner_clock (buffer c.name-profile.result) c.self.view_is c.requires.of_plan.cells
    (subst (λ n. IsIn (cells P) (buffer n)) (sym c.name-profile.ensures) (profile-there P c.args.self.now c.args.instance.now.name c.requires.of_plan c.requires.fits)))
    (ap₂ (λ x ms. position_from (stores x) 0 ms) (sym c.buffer.ensures) (sym c.deref.ensures.value) ∙ sym c.place_of.ensures ∙ c.in_default-place_of.is)

pub capture_in-requires-clause-rows : goal.capture_in-requires-clause-rows
capture_in-requires-clause-rows c =
    let P = c.args.instance.now.plan in
    let n = c.args.instance.now.name in
    let part = c.in-Some.part.now in
    let captures = captures_of_part part in
    let s = c.args.self.now in
    subst (λ v. is_buffer captures part.profile_entries v ≡ true)
    (ap (λ n. value s (buffer n)) (sym c.name-profile.ensures)
    ∙ ap (λ s. value s (buffer c.name-profile.result)) (sym c.self.view_is)
    ∙ inner_value (flat_map stored_pairs c.self.inside.objects.items) c.self.inside.inner_clock (buffer c.name-profile.result) refl)
    (is_buffer-of_state P captures (captured_in s n captures) part.profile_entries (value s (buffer n))
    (chosen-in capture_objects_value captures (value s (capture_objects n)))
    (profile_holds P s n (record { captured = captures; entries = part.profile_entries }) c.requires.of_plan c.in-Some.ensures).0)

pub place_of-requires-clause-of_plan : goal.place_of-requires-clause-of_plan
place_of-requires-clause-of_plan c =
    objects-of c.args.instance.now.plan c.args.self.now c.self.inside.objects.items c.self.inside.inner_clock c.deref.result.now c.args.instance.now.plan c.self.view_is c.requires.of_plan.cells
    c.deref.ensures.value refl

pub returns-clause-ok : goal.returns-clause-ok
returns-clause-ok c =
    let n = c.args.instance.now.name in
    let part = c.in-Some.part.now in
    around c.args.self.now (flat_map stored_pairs c.self.inside.objects.items) (flat_map stored_pairs c.capture_in.new.objects.items) c.self.inside.inner_clock
    (captured c.name-profile.result part.profile_entries c.in_ok-row.row)
    (inner_captured (flat_map stored_pairs c.self.inside.objects.items) c.self.inside.inner_clock c.name-profile.result part.profile_entries c.in_ok-row.row) c.self.view_is c.in_ok-change.ensures.ok
    ∙ ap (λ n. captured n part.profile_entries c.in_ok-row.row c.args.self.now) c.name-profile.ensures
    ∙ ap (λ row. captured n part.profile_entries row c.args.self.now)
    (c.in_ok-row.ensures ∙ ap (map (value c.args.self.now)) c.columns-columns.ensures.cells)
    ∙ ap (capture c.args.self.now n) c.in-Some.ensures

pub returns-clause-before : goal.returns-clause-before
returns-clause-before c =
    back-around c.args.self.now (flat_map stored_pairs c.self.inside.objects.items) (flat_map stored_pairs c.capture_in.new.objects.items) c.self.inside.inner_clock
    c.name-profile.result c.in_ok-change.change c.self.view_is c.in_ok-change.ensures.before
