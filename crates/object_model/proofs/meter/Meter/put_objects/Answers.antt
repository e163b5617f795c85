use Rattle.std.proofs.Common.{◌∙◌, ◌++◌, refl, ap, ap₂, sym, subst, flat_map}
use Rattle.std.specs.List.{position_from}
use Rattle.cosem_data.specs.View.{tree}
use Rattle.meter_theory.specs.Lists.{IsIn}
use Rattle.meter_theory.specs.Plan.{capture_objects, cells}
use Rattle.meter_theory.specs.State.{put}
use Rattle.object_model.specs.Stored.{inner_pairs, stored_pairs, stores}
use Rattle.object_model.specs.Undone.{change_undone}
use Rattle.object_model.proofs.Inner.{inner_there, inner_put, objects-of, around, back-around}
use Rattle.object_model.proofs.Kept.{stored-somewhere}
use Rattle.object_model.proofs.meter.Meter.put_objects.Goals as goal

pub unreachable-requires : goal.unreachable-requires
unreachable-requires c =
    stored-somewhere c.self.inside.objects.items (capture_objects c.name-profile.result)
    (inner_there c.args.instance.now.plan c.args.self.now c.self.inside.objects.items c.self.inside.inner_clock (capture_objects c.name-profile.result) c.self.view_is c.requires.of_plan
    (subst (λ n. IsIn (cells c.args.instance.now.plan) (capture_objects n)) (sym c.name-profile.ensures) c.requires.there))
    (ap₂ (λ x ms. position_from (stores x) 0 ms) (sym c.capture_objects-cell.ensures) (sym c.deref.ensures.value) ∙ sym c.place_of.ensures ∙ c.in_default.is)

pub place_of-requires-clause-of_plan : goal.place_of-requires-clause-of_plan
place_of-requires-clause-of_plan c =
    objects-of c.args.instance.now.plan c.args.self.now c.self.inside.objects.items c.self.inside.inner_clock c.deref.result.now c.args.instance.now.plan c.self.view_is c.requires.of_plan
    c.deref.ensures.value refl

pub returns-clause-put : goal.returns-clause-put
returns-clause-put c =
    around c.args.self.now (flat_map stored_pairs c.self.inside.objects.items) (flat_map stored_pairs c.put_objects_in.new.objects.items) c.self.inside.inner_clock
    (λ t. put t (capture_objects c.name-profile.result) (tree c.args.objects))
    (inner_put (flat_map stored_pairs c.self.inside.objects.items) c.self.inside.inner_clock (capture_objects c.name-profile.result) (tree c.args.objects) refl)
    c.self.view_is c.put_objects_in.ensures.put
    ∙ ap (λ n. put c.args.self.now (capture_objects n) (tree c.args.objects)) c.name-profile.ensures

pub returns-clause-before : goal.returns-clause-before
returns-clause-before c =
    ap (λ n. change_undone n c.put_objects_in.result (flat_map stored_pairs c.put_objects_in.new.objects.items ++ inner_pairs c.self.inside.inner_clock)) (sym c.name-profile.ensures)
    ∙ back-around c.args.self.now (flat_map stored_pairs c.self.inside.objects.items) (flat_map stored_pairs c.put_objects_in.new.objects.items) c.self.inside.inner_clock
    c.name-profile.result c.put_objects_in.result c.self.view_is c.put_objects_in.ensures.before
