use Rattle.std.proofs.Common.{◌≡◌, ◌∙◌, ◌++◌, refl, ap, ap₂, sym, None, flat_map}
use Rattle.std.specs.List.{position_from}
use Rattle.meter_theory.specs.Plan.{buffer, entries_in_use}
use Rattle.meter_theory.specs.State.{put}
use Rattle.meter_theory.specs.Steps as theory
use Rattle.meter_theory.specs.Value.{array_of, counter}
use Rattle.class_profile.specs.declared.profile.ProfileChange.TheVariants as profiles
use Rattle.object_model.specs.declared.undo.Change.TheVariants as changes
use Rattle.object_model.specs.Stored.{inner_pairs, stored_pairs, stores}
use Rattle.object_model.specs.Undone.{change_undone}
use Rattle.object_model.proofs.Changed.{clear-nowhere}
use Rattle.object_model.proofs.Inner.{inner_clear, objects-of, around, back-around}
use Rattle.object_model.proofs.meter.Meter.empty.Goals as goal

pub returns-in-None-clause-cleared : goal.returns-in-None-clause-cleared
returns-in-None-clause-cleared c =
    let none : position_from (stores (buffer c.name-profile.result)) 0 c.self.inside.objects.items ≡ None =
    ap₂ (λ x ms. position_from (stores x) 0 ms) (sym c.buffer.ensures) (sym c.deref.ensures.value) ∙ sym c.place_of.ensures ∙ c.in-None.is in
    sym (ap (λ s. theory.clear s c.name-profile.result) (sym c.self.view_is)
    ∙ inner_clear (flat_map stored_pairs c.self.inside.objects.items) c.self.inside.inner_clock c.name-profile.result
    ∙ ap (λ s. s ++ inner_pairs c.self.inside.inner_clock) (clear-nowhere c.self.inside.objects.items c.name-profile.result none)
    ∙ c.self.view_is)
    ∙ ap (theory.clear c.args.self.now) c.name-profile.ensures

pub returns-in-None-clause-before : goal.returns-in-None-clause-before
returns-in-None-clause-before c =
    ap (λ rows. put (put c.args.self.now (buffer c.args.instance.now.name) (array_of rows)) (entries_in_use c.args.instance.now.name) (counter 0)) c.none.ensures
    ∙ sym (returns-in-None-clause-cleared c)

pub place_of-requires-clause-of_plan : goal.place_of-requires-clause-of_plan
place_of-requires-clause-of_plan c =
    objects-of c.args.instance.now.plan c.args.self.now c.self.inside.objects.items c.self.inside.inner_clock c.deref.result.now c.args.instance.now.plan c.self.view_is c.requires
    c.deref.ensures.value refl

pub returns-in-Some-clause-cleared : goal.returns-in-Some-clause-cleared
returns-in-Some-clause-cleared c =
    around c.args.self.now (flat_map stored_pairs c.self.inside.objects.items) (flat_map stored_pairs c.clear_in.new.objects.items) c.self.inside.inner_clock
    (λ t. theory.clear t c.name-profile.result)
    (inner_clear (flat_map stored_pairs c.self.inside.objects.items) c.self.inside.inner_clock c.name-profile.result)
    c.self.view_is c.clear_in.ensures.cleared
    ∙ ap (theory.clear c.args.self.now) c.name-profile.ensures

pub returns-in-Some-clause-before : goal.returns-in-Some-clause-before
returns-in-Some-clause-before c =
    ap (λ n. change_undone n (changes.ProfileGeneric (profiles.Cleared c.clear_in.result)) (flat_map stored_pairs c.clear_in.new.objects.items ++ inner_pairs c.self.inside.inner_clock)) (sym c.name-profile.ensures)
    ∙ back-around c.args.self.now (flat_map stored_pairs c.self.inside.objects.items) (flat_map stored_pairs c.clear_in.new.objects.items) c.self.inside.inner_clock
    c.name-profile.result (changes.ProfileGeneric (profiles.Cleared c.clear_in.result)) c.self.view_is c.clear_in.ensures.before
