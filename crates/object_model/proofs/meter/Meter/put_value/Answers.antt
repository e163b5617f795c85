use Rattle.std.proofs.Common.{◌∙◌, refl, ap, sym, flat_map}
use Rattle.std.specs.List.{position_from}
use Rattle.cosem_data.specs.View.{tree}
use Rattle.object_model.specs.Stored.{stores}
use Rattle.object_model.proofs.Puts.{put-is-there}
use Rattle.meter_theory.specs.State.{put}
use Rattle.meter_theory.specs.Steps.{kept}
use Rattle.meter_theory.proofs.Held.{cell_apart}
use Rattle.object_model.specs.Stored.{stored_pairs}
use Rattle.object_model.proofs.Inner.{inner_there, inner_put, objects-of, around, back-around}
use Rattle.object_model.proofs.Kept.{stored-somewhere}
use Rattle.object_model.proofs.meter.Meter.put_value.Goals as goal

pub unreachable-requires-in_default-place_of : goal.unreachable-requires-in_default-place_of
unreachable-requires-in_default-place_of c =
    stored-somewhere c.self.inside.objects.items c.args.cell.now
    (inner_there c.args.instance.now.plan c.args.self.now c.self.inside.objects.items c.self.inside.inner_clock c.args.cell.now c.self.view_is c.requires.of_plan.cells
    (put-is-there c.args.instance.now.plan c.args.self.now c.args.cell.now (tree c.args.given) c.requires.of_plan c.requires.fits))
    (ap (position_from (stores c.args.cell.now) 0) (sym c.deref.ensures.value) ∙ sym c.place_of.ensures ∙ c.in_default-place_of.is)

pub place_of-requires-clause-of_plan : goal.place_of-requires-clause-of_plan
place_of-requires-clause-of_plan c =
    objects-of c.args.instance.now.plan c.args.self.now c.self.inside.objects.items c.self.inside.inner_clock c.deref.result.now c.args.instance.now.plan c.self.view_is c.requires.of_plan.cells
    c.deref.ensures.value refl

pub returns-clause-put : goal.returns-clause-put
returns-clause-put c =
    around c.args.self.now (flat_map stored_pairs c.self.inside.objects.items) (flat_map stored_pairs c.write_in.new.objects.items) c.self.inside.inner_clock
    (λ t. put t c.args.cell.now (kept c.args.cell.now (tree c.args.given)))
    (inner_put (flat_map stored_pairs c.self.inside.objects.items) c.self.inside.inner_clock c.args.cell.now (kept c.args.cell.now (tree c.args.given))
    (cell_apart c.args.instance.now.plan c.args.cell.now (put-is-there c.args.instance.now.plan c.args.self.now c.args.cell.now (tree c.args.given) c.requires.of_plan c.requires.fits)))
    c.self.view_is c.write_in.ensures.put

pub returns-clause-before : goal.returns-clause-before
returns-clause-before c =
    back-around c.args.self.now (flat_map stored_pairs c.self.inside.objects.items) (flat_map stored_pairs c.write_in.new.objects.items) c.self.inside.inner_clock
    c.args.cell.now.name c.write_in.result c.self.view_is c.write_in.ensures.before
