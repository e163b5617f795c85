use Rattle.std.proofs.Common.{◌≡◌, ◌∙◌, ◌++◌, ap, ap₂, sym, None, flat_map}
use Rattle.std.specs.List.{position_from}
use Rattle.object_model.specs.Stored.{inner_pairs, stored_pairs, stores}
use Rattle.object_model.specs.Undone.{change_undone, cell_changed}
use Rattle.object_model.proofs.Changed.{undone-nowhere}
use Rattle.object_model.proofs.Inner.{inner_undone, objects-of, around}
use Rattle.object_model.proofs.meter.Meter.take_back.Goals as goal

pub returns-in_default : goal.returns-in_default
returns-in_default c =
    let none : position_from (stores (cell_changed c.args.name c.args.change)) 0 c.self.inside.objects.items ≡ None =
    ap₂ (λ x ms. position_from (stores x) 0 ms) (sym c.cell-cell.ensures) (sym c.deref.ensures.value) ∙ sym c.place_of.ensures ∙ c.in_default.is in
    sym (ap (change_undone c.args.name c.args.change) (sym c.self.view_is)
    ∙ inner_undone (flat_map stored_pairs c.self.inside.objects.items) c.self.inside.inner_clock c.args.name c.args.change
    ∙ ap (λ s. s ++ inner_pairs c.self.inside.inner_clock) (undone-nowhere c.self.inside.objects.items c.args.name c.args.change none)
    ∙ c.self.view_is)

pub place_of-requires-clause-of_plan : goal.place_of-requires-clause-of_plan
place_of-requires-clause-of_plan c =
    objects-of c.args.plan.now c.args.self.now c.self.inside.objects.items c.self.inside.inner_clock c.deref.result.now c.instance.result.plan c.self.view_is c.requires
    c.deref.ensures.value (ap (λ i. i.plan) c.instance.ensures)

pub returns-in-Some : goal.returns-in-Some
returns-in-Some c =
    around c.args.self.now (flat_map stored_pairs c.self.inside.objects.items) (flat_map stored_pairs c.restore_in.new.objects.items) c.self.inside.inner_clock
    (change_undone c.args.name c.args.change) (inner_undone (flat_map stored_pairs c.self.inside.objects.items) c.self.inside.inner_clock c.args.name c.args.change)
    c.self.view_is c.restore_in.ensures
