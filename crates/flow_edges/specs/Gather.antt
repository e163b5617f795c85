-- Edges that are gathered one after another, each once.
use Rattle.std.specs.Prelude.{◌≡◌, ℕ, cond, List, [], ◌∷◌, ◌++◌, map}
use Rattle.std.specs.List.{list_any}
use Rattle.cosem_data.specs.declared.cell.CellRef.{CellRef}
use Rattle.meter_theory.specs.Edges.{edge, same_edge}
use Rattle.meter_theory.specs.declared.flow.Cause.TheVariants.{Captured}
use Rattle.meter_theory.specs.declared.flow.Edge.{Edge}
use Rattle.flow_edges.specs.Table.{CellEdges, cell_at}

-- the edge goes behind the list, unless it is in it: own profile
abbrev pub add_edge : List Edge → Edge → List Edge
add_edge es e = cond (list_any (same_edge e) es) es (es ++ e ∷ [])

-- edges one after another: own profile
abbrev pub gather : List Edge → List Edge → List Edge
gather found [] = found
gather found (e ∷ es) = gather (add_edge found e) es

-- edges were gathered between the same cells: own profile
pub record IsGathered (old new : CellEdges) (es : List Edge) : Type 0 where
  pub cells : new.cells ≡ old.cells
  pub edges : new.edges ≡ gather old.edges es

-- the edges from captured cells to a buffer, in order: own profile
abbrev pub captures_into : CellRef → List CellRef → List Edge
captures_into buffer captured = map (λ x. edge Captured x buffer) captured

-- the cells with these two numbers: own profile
abbrev pub both_at : List CellRef → ℕ → ℕ → List CellRef
both_at cells i j = cell_at cells i ∷ cell_at cells j ∷ []
