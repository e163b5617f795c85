use Rattle.std.proofs.Common.{◌∙◌, refl, ap, ap₂, sym, subst, flat_map}
use Rattle.std.specs.List.{position_from}
use Rattle.cosem_data.specs.View.{tree}
use Rattle.meter_theory.specs.Lists.{IsIn}
use Rattle.meter_theory.specs.Plan.{cells, seen}
use Rattle.object_model.specs.Stored.{stores}
use Rattle.meter_theory.specs.State.{put}
use Rattle.object_model.specs.Stored.{stored_pairs}
use Rattle.object_model.proofs.Inner.{inner_there, inner_put, objects-of, around, back-around}
use Rattle.object_model.proofs.Kept.{remembered-there, stored-somewhere}
use Rattle.object_model.proofs.meter.Meter.remember.Goals as goal

pub unreachable-requires : goal.unreachable-requires
unreachable-requires c =
    stored-somewhere c.self.inside.objects.items (seen c.name-monitor.result)
    (inner_there c.args.instance.now.plan c.args.self.now c.self.inside.objects.items c.self.inside.inner_clock (seen c.name-monitor.result) c.self.view_is c.requires.of_plan.cells
    (subst (λ n. IsIn (cells c.args.instance.now.plan) (seen n)) (sym c.name-monitor.ensures)
    (remembered-there c.args.instance.now.plan c.args.self.now c.args.instance.now.name (tree c.args.now) c.requires.of_plan c.requires.fits)))
    (ap₂ (λ x ms. position_from (stores x) 0 ms) (sym c.seen-cell.ensures) (sym c.deref.ensures.value) ∙ sym c.place_of.ensures ∙ c.in_default.is)

pub place_of-requires-clause-of_plan : goal.place_of-requires-clause-of_plan
place_of-requires-clause-of_plan c =
    objects-of c.args.instance.now.plan c.args.self.now c.self.inside.objects.items c.self.inside.inner_clock c.deref.result.now c.args.instance.now.plan c.self.view_is c.requires.of_plan.cells
    c.deref.ensures.value refl

pub returns-clause-put : goal.returns-clause-put
returns-clause-put c =
    around c.args.self.now (flat_map stored_pairs c.self.inside.objects.items) (flat_map stored_pairs c.remember_in-change.new.objects.items) c.self.inside.inner_clock
    (λ t. put t (seen c.name-monitor.result) (tree c.args.now))
    (inner_put (flat_map stored_pairs c.self.inside.objects.items) c.self.inside.inner_clock (seen c.name-monitor.result) (tree c.args.now) refl)
    c.self.view_is c.remember_in-change.ensures.put
    ∙ ap (λ n. put c.args.self.now (seen n) (tree c.args.now)) c.name-monitor.ensures

pub returns-clause-before : goal.returns-clause-before
returns-clause-before c =
    back-around c.args.self.now (flat_map stored_pairs c.self.inside.objects.items) (flat_map stored_pairs c.remember_in-change.new.objects.items) c.self.inside.inner_clock
    c.name-monitor.result c.remember_in-change.result c.self.view_is c.remember_in-change.ensures.before
