-- The cells of one object by their indexes.
use Rattle.std.proofs.Common.{◌≡◌, ◌≤◌, ◌+◌, ◌==◌, ℕ, refl, ap, sym, ◌∙◌, arith, Bool, true, false, ◌&&◌, cond, Option, Some, None, List, [], ◌∷◌, length, map}
use Rattle.std.proofs.lemmas.List.{length-map}
use Rattle.std.specs.List.{position_from}
use Rattle.cosem_data.specs.Cells.{cell, same_cell, same_name}
use Rattle.cosem_data.specs.declared.name.LogicalName.{LogicalName}
use Rattle.cosem_data.specs.declared.cell.CellRef.{CellRef}
use Rattle.meter_theory.specs.Plan.{Part, class_of, start_of}
use Rattle.meter_theory.specs.State.{keys}
use Rattle.object_model.proofs.Numbers.{few-own}

either : (b : Bool) (place : Option ℕ) → place ≡ cond b place place
either true place = refl
either false place = refl

-- a cell of the object stands where its index does, and any other nowhere
pub place-of_index : (x : CellRef) (c : ℕ) (n : LogicalName) (k : ℕ) (indexes : List ℕ) →
    position_from (same_cell x) k (map (cell c n) indexes) ≡ cond ((x.class_id == c) && same_name x.name n) (position_from (λ i. x.index == i) k indexes) None
place-of_index x c n k [] = either ((x.class_id == c) && same_name x.name n) None
place-of_index x c n k (i ∷ indexes) = at (x.class_id == c) (same_name x.name n) (x.index == i) (place-of_index x c n (k + 1) indexes)
  where
    at : (of_class of_name here : Bool) →
        position_from (same_cell x) (k + 1) (map (cell c n) indexes) ≡ cond (of_class && of_name) (position_from (λ j. x.index == j) (k + 1) indexes) None →
        cond (of_class && (of_name && here)) (Some k) (position_from (same_cell x) (k + 1) (map (cell c n) indexes))
        ≡ cond (of_class && of_name) (cond here (Some k) (position_from (λ j. x.index == j) (k + 1) indexes)) None
    at true true true rest = refl
    at true true false rest = rest
    at true false here rest = rest
    at false of_name here rest = rest

-- the same among the cells of an object whose indexes these are
pub placed : (x : CellRef) (c : ℕ) (n : LogicalName) (indexes : List ℕ) (cells : List CellRef) (place : Option ℕ) → map (cell c n) indexes ≡ cells →
    ((x.class_id == c) && same_name x.name n) ≡ true → place ≡ position_from (λ i. x.index == i) 0 indexes → place ≡ position_from (same_cell x) 0 cells
placed x c n indexes cells place are own is =
    is ∙ sym (ap (λ b. cond b (position_from (λ i. x.index == i) 0 indexes) None) own) ∙ sym (place-of_index x c n 0 indexes) ∙ ap (position_from (same_cell x) 0) are

-- an object has four cells at most, and so many indexes
pub few-indexes : (p : Part) (indexes : List ℕ) → ((n : LogicalName) → map (cell (class_of p) n) indexes ≡ keys (start_of n p)) → length indexes ≤ 4
few-indexes p indexes are =
    let n : LogicalName = record { 0 = [] } in
    let same : length indexes ≡ length (start_of n p) = sym (length-map indexes (cell (class_of p) n)) ∙ ap length (are n) ∙ length-map (start_of n p) (λ e. e.0) in
    let few = few-own n p in omega (arith, same, few)
