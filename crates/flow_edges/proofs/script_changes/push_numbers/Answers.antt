use Rattle.std.proofs.Common.{◌≡◌, ◌++◌, ◌∷◌, [], ◌∙◌, ℕ, Option, Some, None, ap, sym, refl, take, get_or}
use Rattle.std.specs.List.{position_from}
use Rattle.std.proofs.lemmas.List.{append-nil, append_assoc, get_or_default}
use Rattle.cosem_data.specs.Cells.{cell, same_cell}
use Rattle.meter_theory.specs.Plan.{cells}
use Rattle.flow_edges.specs.Marking.{numbers_of}
use Rattle.flow_edges.specs.Table.{no_cell}
use Rattle.object_model.proofs.Positions.{item-in}
use Rattle.flow_edges.proofs.Targets.{numbers-step}
use Rattle.flow_edges.proofs.script_changes.push_numbers.Goals as goal
use Rattle.flow_edges.proofs.script_changes.push_numbers.Goals.{in-Some+in_ok-push, in_default}

absent : (r : Option ℕ) → ((n : ℕ) → r ≡ Some n → ⊥) → r ≡ None
absent None none = refl
absent (Some n) none = absurd (none n refl)

pub loop-cell-preserved : goal.loop-cell-preserved
loop-cell-preserved c =
    let P = c.args.object.now.plan in
    let xs = c.args.cells.now in
    let i = c.loop-cell.cell-index in
    let x = get_or xs i no_cell in
    let named : x.name ≡ c.args.object.now.name = c.requires x (item-in xs i x c.loop-cell-test.true (get_or_default xs i no_cell x c.loop-cell-test.true)) in
    let own = ap (λ n. position_from (same_cell (cell x.class_id n x.index)) 0 (cells P)) (sym named) in
    let old = c.args.numbers.now.items in
    let so_far = numbers_of P (take i xs) in
    elim c.match-cell_number.branch [
      | in-Some+in_ok-push w ↦
          ap (λ (v : _). v.items) w.numbers-is
          ∙ w.in_ok-push.ensures.items
          ∙ ap (λ ns. ns ++ w.in-Some.number ∷ []) c.loop-cell.invariant
          ∙ append_assoc old so_far (w.in-Some.number ∷ [])
          ∙ ap (λ ns. old ++ ns) (numbers-step (cells P) xs i (Some w.in-Some.number) c.loop-cell-test.true (w.in-Some.ensures ∙ own))
      | in_default w ↦
          ap (λ (v : _). v.items) w.numbers-is
          ∙ c.loop-cell.invariant
          ∙ ap (λ ns. old ++ ns)
          (sym (append-nil so_far) ∙ numbers-step (cells P) xs i None c.loop-cell-test.true (sym (absent c.cell_number.result w.in_default.not-Some) ∙ c.cell_number.ensures ∙ own))
    ]
