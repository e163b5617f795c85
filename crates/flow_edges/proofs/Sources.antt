-- The numbers of a plan's cells, and the cells of the objects that make edges.
use Rattle.std.proofs.Common.{◌≡◌, ◌<◌, ℕ, List, length, Some, None, option_map, sym, ap, subst, refl, inl}
use Rattle.std.specs.List.{position_from}
use Rattle.std.proofs.lemmas.Option.{slice_get-get_or}
use Rattle.cosem_data.specs.Cells.{same_cell}
use Rattle.cosem_data.specs.Tree.{Tree}
use Rattle.cosem_data.specs.declared.name.LogicalName.{LogicalName}
use Rattle.cosem_data.specs.declared.cell.CellRef.{CellRef}
use Rattle.cosem_data.proofs.Same.{same_cell-true, same_cell-refl}
use Rattle.meter_theory.specs.declared.refs.UpDown.{UpDown}
use Rattle.meter_theory.specs.Lists.{IsIn}
use Rattle.meter_theory.specs.Edges.{captured_by}
use Rattle.meter_theory.specs.Menus.{Choice}
use Rattle.meter_theory.specs.Plan.{Plan, Part, Clock, ProfileGeneric, RegisterMonitor, cells, clock_object, clock_time, start_of, start_values}
use Rattle.meter_theory.specs.Sound.{IsSound, IsSoundPart}
use Rattle.meter_theory.specs.State.{keys}
use Rattle.meter_theory.specs.Steps.{captures_in}
use Rattle.meter_theory.proofs.Lists.{from_map, in_map, in_flat_map, none_found}
use Rattle.meter_theory.proofs.Held.{clock_found}
use Rattle.object_model.proofs.Inner.{clock-named}
use Rattle.object_model.proofs.Numbers.{cells-apart, cells-few}
use Rattle.object_model.proofs.Positions.{first, first-none}
use Rattle.flow_edges.specs.Sources.{HasPart}
use Rattle.flow_edges.specs.Table.{cell_at, no_cell, AreCells}

-- the cells of a sound plan are a list of cells that edges may join
pub are-cells : (P : Plan) → IsSound P → AreCells (cells P)
are-cells P sound = record {
  apart = λ i j h g same. cells-apart P sound i j (cell_at (cells P) i) (cell_at (cells P) j) (slice_get-get_or (cells P) i no_cell h) (slice_get-get_or (cells P) j no_cell g) same;
  few = cells-few P sound;
}

-- what has this number is the cell
pub numbered : (cs : List CellRef) (x : CellRef) (k : ℕ) → position_from (same_cell x) 0 cs ≡ Some k → (k < length cs) × (cell_at cs k ≡ x)
numbered cs x k is = let at = first (same_cell x) cs k is in (at.within, sym (same_cell-true x (cell_at cs k) (at.passes no_cell)))

-- and what has none is no cell
pub unnumbered : (cs : List CellRef) (x : CellRef) → position_from (same_cell x) 0 cs ≡ None → IsIn cs x → ⊥
unnumbered cs x is i = none_found (same_cell x) cs x (first-none (same_cell x) cs is) i (same_cell-refl x)

-- the cells of a part are cells of the plan
pub own-cell : (P : Plan) (n : LogicalName) (part : Part) (x : CellRef) → HasPart P n part → IsIn (keys (start_of n part)) x → IsIn (cells P) x
own-cell P n part x h i =
    let e = from_map (λ e. e.0) (start_of n part) x i in
    let there : IsIn (start_of h.0.name h.0.part) e.0 = subst (λ m. IsIn (start_of m h.0.part) e.0) (sym h.2) (subst (λ p. IsIn (start_of n p) e.0) (sym h.3) e.1) in
    subst (IsIn (cells P)) (sym e.2) (in_map (λ e. e.0) (start_values P) e.0 (in_flat_map (λ o. start_of o.name o.part) P.objects h.0 e.0 h.1 there))

-- with which it starts
pub own-start : (P : Plan) (n : LogicalName) (part : Part) (x : CellRef) (v : Tree) → HasPart P n part → IsIn (start_of n part) (x, v) → IsIn (cells P) x
own-start P n part x v h i = own-cell P n part x h (in_map (λ e. e.0) (start_of n part) (x, v) i)

-- so are those that a profile may capture
pub captured-cell : (P : Plan) (n : LogicalName) (captured : Choice (List CellRef)) (period entries : ℕ) → IsSound P → HasPart P n (ProfileGeneric captured period entries) →
    (x : CellRef) → IsIn (captured_by captured) x → IsIn (cells P) x
captured-cell P n captured period entries sound h x i = (sound.captures h.0 h.1 (record { captured = captured; entries = entries }) (ap captures_in h.3) x i).0

-- and the clock
pub clock-cell : (P : Plan) (n : LogicalName) → Some n ≡ option_map (λ o. o.name) (clock_object P) → IsIn (cells P) (clock_time n)
clock-cell P n named =
    let o = clock-named P n named in
    let f = clock_found P o.0 o.1 in
    own-cell P n (Clock f.1.0) (clock_time n) (o.0, f.0, sym o.2, f.1.1) (inl refl)

-- and what a register monitor watches
pub monitored-cell : (P : Plan) (n : LogicalName) (monitored : CellRef) (th : Tree) (actions : List UpDown) → IsSound P → HasPart P n (RegisterMonitor monitored th actions) → IsIn (cells P) monitored
monitored-cell P n monitored th actions sound h = (subst (IsSoundPart P) h.3 (sound.parts h.0 h.1)).0
