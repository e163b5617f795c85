use Rattle.std.proofs.Common.{◌≡◌, ◌∙◌, ◌+◌, ap, sym, subst, arith}
use Rattle.std.specs.Prelude.{option_map}
use Rattle.std.specs.List.{position_from}
use Rattle.cosem_data.specs.Cells.{cell, same_cell}
use Rattle.meter_theory.specs.Plan.{start_of}
use Rattle.meter_theory.specs.Sound.{IsSound}
use Rattle.meter_theory.specs.State.{keys}
use Rattle.object_model.specs.PartView.{part_of}
use Rattle.object_model.proofs.Numbers.{own, IsPlaced, is-placed, no-place, unplaced}
use Rattle.object_model.proofs.Puts.{position-within}
use Rattle.object_model.proofs.instance.Instance.cell_number.Goals as goal
use Rattle.object_model.proofs.instance.Instance.cell_number.Goals.{After-cell_place}

-- the object and its place
here : (c : After-cell_place) → IsPlaced c.args.self.now.plan (cell c.args.class_id c.args.self.now.name c.args.index) c.in_ok-object.object.now c.in_ok-place.place
here c =
    is-placed c.args.self.now.plan (cell c.args.class_id c.args.self.now.name c.args.index) c.in_ok-object.object.now c.in_ok-place.place
    (subst IsSound (ap (λ v. v.plan) c.self.view_is) c.known.ensures.sound) c.in_ok-object.ensures c.in_ok-place.ensures

-- where the cell stands among those of the object
among : (c : After-cell_place) → c.cell_place.result ≡ position_from (same_cell (cell c.args.class_id c.args.self.now.name c.args.index)) 0 (own c.in_ok-object.object.now)
among c =
    c.cell_place.ensures
    ∙ ap (λ x. position_from (same_cell x) 0 (keys (start_of c.name.result (part_of c.part.result.now)))) c.cell.ensures
    ∙ ap (λ n. position_from (same_cell (cell c.args.class_id c.args.self.now.name c.args.index)) 0 (keys (start_of n (part_of c.part.result.now)))) c.name.ensures
    ∙ ap (λ p. position_from (same_cell (cell c.args.class_id c.args.self.now.name c.args.index)) 0 (keys (start_of c.in_ok-object.object.now.name p))) c.part.ensures

pub returns-in_err-object : goal.returns-in_err-object
returns-in_err-object c = c.from_residual.ensures ∙ sym (unplaced c.args.self.now.plan (cell c.args.class_id c.args.self.now.name c.args.index) (sym c.in_err-object.ensures))

pub returns-in_err-place : goal.returns-in_err-place
returns-in_err-place c = absurd (no-place c.args.self.now.plan c.args.self.now.name c.in_ok-object.object.now c.in_ok-object.ensures c.in_err-place.ensures)

pub returns-in_err-own : goal.returns-in_err-own
returns-in_err-own c =
    let at = (goal.at.returns-in_err-own c).After-cell_place in
    c.from_residual-in_err-own.ensures ∙ ap (option_map (λ j. c.in_ok-place.place.first_cell + j)) (sym c.in_err-own.was ∙ among at) ∙ sym (here at).number

pub overflow_add-result : goal.overflow_add-result
overflow_add-result c =
    let at = (goal.at.overflow_add-result c).After-cell_place in
    let few = (here at).few in
    let less = position-within (same_cell (cell c.args.class_id c.args.self.now.name c.args.index)) 0 (own c.in_ok-object.object.now) c.in_ok-own.own (sym c.in_ok-own.was ∙ among at) in
    omega (arith, few, less)

pub returns : goal.returns
returns c =
    let at = (goal.at.returns c).After-cell_place in
    ap (option_map (λ j. c.in_ok-place.place.first_cell + j)) (sym c.in_ok-own.was ∙ among at) ∙ sym (here at).number
