use Rattle.std.proofs.Common.{◌≡◌, ◌∙◌, refl, ap, sym, arith, List, flat_map, is_some}
use Rattle.std.specs.List.{list_any, position_from}
use Rattle.cosem_data.specs.Cells.{same_cell}
use Rattle.cosem_data.specs.declared.cell.CellRef.{CellRef}
use Rattle.meter_theory.specs.State.{keys, value}
use Rattle.meter_theory.specs.Plan.{cells}
use Rattle.object_model.specs.declared.stored.Stored.{Stored}
use Rattle.object_model.specs.Stored.{stored_pairs, stores}
use Rattle.object_model.proofs.Positions.{first}
use Rattle.object_model.proofs.Stores.{is_some-stored, nowhere-value}
use Rattle.object_model.proofs.Changed.{split, value-in}
use Rattle.object_model.proofs.Inner.{apart-named, inner_value, inner_parts, objects-of}
use Rattle.object_model.proofs.meter.Meter.held.Goals as goal

pub place_of-requires-clause-of_plan : goal.place_of-requires-clause-of_plan
place_of-requires-clause-of_plan c =
    objects-of c.args.instance.now.plan c.args.self.now c.self.inside.objects.items c.self.inside.inner_clock c.deref.result.now c.args.instance.now.plan c.self.view_is c.requires.of_plan.cells
    c.deref.ensures.value refl

pub index-requires : goal.index-requires
index-requires c = let at = first (stores c.args.cell.now) c.self.inside.objects.items c.in-Some.place
    (ap (position_from (stores c.args.cell.now) 0) (sym c.deref.ensures.value) ∙ sym c.place_of.ensures ∙ c.in-Some.is) in omega (arith, at.within)

pub held-requires : goal.held-requires
held-requires c =
    let s = split c.self.inside.objects.items c.args.cell.now c.in-Some.place c.index.result.now
    (ap (position_from (stores c.args.cell.now) 0) (sym c.deref.ensures.value) ∙ sym c.place_of.ensures ∙ c.in-Some.is) in
    ap (stores c.args.cell.now) c.index.ensures ∙ s.here

pub returns-in-Some-clause-found : goal.returns-in-Some-clause-found
returns-in-Some-clause-found c =
    let s = split c.self.inside.objects.items c.args.cell.now c.in-Some.place c.index.result.now
    (ap (position_from (stores c.args.cell.now) 0) (sym c.deref.ensures.value) ∙ sym c.place_of.ensures ∙ c.in-Some.is) in
    c.held.ensures.value ∙ ap (λ m. value (stored_pairs m) c.args.cell.now) c.index.ensures
    ∙ sym (value-in c.self.inside.objects.items c.args.cell.now c.in-Some.place c.index.result.now s)
    ∙ sym (inner_value (flat_map stored_pairs c.self.inside.objects.items) c.self.inside.inner_clock c.args.cell.now (apart-named c.args.cell.now c.is_named.ensures))
    ∙ ap (λ t. value t c.args.cell.now) c.self.view_is

pub returns-in-None-clause-none : goal.returns-in-None-clause-none
returns-in-None-clause-none c =
    ap (λ s. value s c.args.cell.now) (sym c.self.view_is)
    ∙ inner_value (flat_map stored_pairs c.self.inside.objects.items) c.self.inside.inner_clock c.args.cell.now (apart-named c.args.cell.now c.is_named.ensures)
    ∙ nowhere-value c.self.inside.objects.items c.args.cell.now (sym (ap (position_from (stores c.args.cell.now) 0) (sym c.deref.ensures.value) ∙ sym c.place_of.ensures ∙ c.in-None.is))

-- what is found is a cell of the plan, and nothing else is one
is_cell-found : (ms : List Stored) (x : CellRef) (cells : List CellRef) → keys (flat_map stored_pairs ms) ≡ cells → is_some (position_from (stores x) 0 ms) ≡ list_any (same_cell x) cells
is_cell-found ms x cells e = is_some-stored ms x 0 ∙ ap (list_any (same_cell x)) e

pub returns-in-Some-clause-cell : goal.returns-in-Some-clause-cell
returns-in-Some-clause-cell c =
    sym (ap is_some (ap (position_from (stores c.args.cell.now) 0) (sym c.deref.ensures.value) ∙ sym c.place_of.ensures ∙ c.in-Some.is))
    ∙ is_cell-found c.self.inside.objects.items c.args.cell.now (cells c.args.instance.now.plan) (inner_parts c.args.instance.now.plan c.self.inside.objects.items c.self.inside.inner_clock (ap keys c.self.view_is ∙ c.requires.of_plan.cells)).0

pub returns-in-None-clause-cell : goal.returns-in-None-clause-cell
returns-in-None-clause-cell c =
    sym (ap is_some (ap (position_from (stores c.args.cell.now) 0) (sym c.deref.ensures.value) ∙ sym c.place_of.ensures ∙ c.in-None.is))
    ∙ is_cell-found c.self.inside.objects.items c.args.cell.now (cells c.args.instance.now.plan) (inner_parts c.args.instance.now.plan c.self.inside.objects.items c.self.inside.inner_clock (ap keys c.self.view_is ∙ c.requires.of_plan.cells)).0
