-- The links that lead to a cell.
use Rattle.std.specs.Prelude.{◌≡◌, ◌<◌, ◌==◌, ℕ, Bool, true, List, [], filter, find, get_or, length, map}
use Rattle.cosem_data.specs.Cells.{same_cell}
use Rattle.cosem_data.specs.declared.cell.CellRef.{CellRef}
use Rattle.meter_theory.specs.Edges.{edges}
use Rattle.meter_theory.specs.Plan.{Plan, cells}
use Rattle.meter_theory.specs.Ways.{far_end}
use Rattle.meter_theory.specs.declared.flow.Edge.{Edge}
use Rattle.meter_theory.specs.declared.flow.Reach.{Reach}
use Rattle.flow_edges.specs.Table.{AreWithin, cell_at, edge_at}
use Rattle.flow_edges.specs.declared.table.Link.{Link}
use Rattle.flow_edges.specs.Ends.{far_of}

-- for each of n cells the links that lead to it, in their order: own profile
pub record AreArriving (reach : Reach) (n : ℕ) (links : List Link) (lists : List (List Link)) : Type 0 where
  pub size : length lists ≡ n
  pub each : (i : ℕ) → i < n → get_or lists i [] ≡ filter (λ l. far_of reach l == i) links

-- each list is that of the plan's edges that lead to its cell, in their order: own profile
pub record AreEdgesTo (P : Plan) (reach : Reach) (lists : List (List Link)) : Type 0 where
  pub edges : (i : ℕ) → i < length lists →
      map (edge_at (cells P)) (get_or lists i []) ≡ filter (λ e. same_cell (far_end reach e) (cell_at (cells P) i)) (edges P)
  pub within : (i : ℕ) → i < length lists → AreWithin (cells P) (get_or lists i [])

-- what a search for an edge to the cell finds among these links it finds among all edges of the plan: own profile
abbrev pub FindsAllTo : Plan → Reach → CellRef → List Link → Type 0
FindsAllTo P reach x links =
    (test : Edge → Bool) → ((e : Edge) → test e ≡ true → same_cell (far_end reach e) x ≡ true) → find test (map (edge_at (cells P)) links) ≡ find test (edges P)
