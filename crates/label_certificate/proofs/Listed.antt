-- Labels of all cells of a plan stand in its order.
use Rattle.std.specs.Prelude.{◌≡◌, ℕ, suc, ◌+◌, ◌<◌, Bool, true, false, List, [], ◌∷◌, ◌++◌, map, length, Some}
use Rattle.std.proofs.Common.{refl, sym, ap, subst, ◌∙◌, append_assoc, arith}
use Rattle.std.proofs.lemmas.List.{length-append}
use Rattle.cosem_data.specs.Cells.{same_cell}
use Rattle.cosem_data.specs.declared.cell.CellRef.{CellRef}
use Rattle.cosem_data.proofs.Same.{same_cell-refl}
use Rattle.meter_theory.specs.Labels.{Labels}
use Rattle.meter_theory.specs.Plan.{Plan, cells}
use Rattle.meter_theory.specs.Sound.{IsSound}
use Rattle.object_model.proofs.Positions.{is-first}
use Rattle.flow_edges.proofs.Sources.{are-cells}
use Rattle.flow_edges.specs.Table.{AreCells, cell_at, no_cell}
use Rattle.label_certificate.specs.LabelText.{cell_place, AreFrom, AreInPlanOrder}

-- the first of the cells behind others
first_behind : (front : List CellRef) (x : CellRef) (rest : List CellRef) → cell_at (front ++ x ∷ rest) (length front) ≡ x
first_behind [] x rest = refl
first_behind (y ∷ front) x rest = first_behind front x rest

-- a cell stands once, behind those that are before it
placed_behind : (P : Plan) → AreCells (cells P) → (front : List CellRef) (x : CellRef) (rest : List CellRef) → front ++ x ∷ rest ≡ cells P → cell_place P x ≡ Some (length front)
placed_behind P are front x rest is =
    let here : cell_at (cells P) (length front) ≡ x = subst (λ xs. cell_at xs (length front) ≡ x) is (first_behind front x rest) in
    let long : length (front ++ x ∷ rest) ≡ length front + suc (length rest) = length-append front (x ∷ rest) in
    let all : length (front ++ x ∷ rest) ≡ length (cells P) = ap length is in
    let within : length front < length (cells P) = omega (arith, long, all) in
    sym (is-first (same_cell x) (cells P) (length front) no_cell within
    (λ j before. other j before (omega (arith, before, within)) here within (same_cell x (cell_at (cells P) j)) refl)
    (subst (λ y. same_cell x y ≡ true) (sym here) (same_cell-refl x)))
  where
    other : (j : ℕ) → j < length front → j < length (cells P) → cell_at (cells P) (length front) ≡ x → length front < length (cells P) →
        (b : Bool) → same_cell x (cell_at (cells P) j) ≡ b → same_cell x (cell_at (cells P) j) ≡ false
    other j before low here within false e = e
    other j before low here within true e =
        let same : length front ≡ j = are.apart (length front) j within low (subst (λ y. same_cell y (cell_at (cells P) j) ≡ true) (sym here) e) in
        absurd (omega (arith, before, same))

listed_from : (P : Plan) → AreCells (cells P) → (front : List CellRef) (labels : Labels) → front ++ map (λ entry. entry.0) labels ≡ cells P → AreFrom P (length front) labels
listed_from P are front [] is = tt
listed_from P are front (entry ∷ labels) is = (
  length front,
  placed_behind P are front entry.0 (map (λ entry. entry.0) labels) is,
  omega arith,
  subst (λ n. AreFrom P n labels) (length-append front (entry.0 ∷ []))
      (listed_from P are (front ++ entry.0 ∷ []) labels (append_assoc front (entry.0 ∷ []) (map (λ entry. entry.0) labels) ∙ is)),
)

-- labels of all cells of a plan stand in its order
pub listed_in_order : (P : Plan) (labels : Labels) → IsSound P → map (λ entry. entry.0) labels ≡ cells P → AreInPlanOrder P labels
listed_in_order P labels sound is = listed_from P (are-cells P sound) [] labels is
