-- Edges between the cells of a list, by their numbers, and the marks that tell which were found.
use Rattle.std.specs.Prelude.{◌≡◌, ℕ, ◌+◌, ◌*◌, ◌<◌, ◌≤◌, Bool, true, List, [], ◌∷◌, length, get_or, map}
use Rattle.std.specs.List.{list_any}
use Rattle.cosem_data.specs.Cells.{cell, same_cell}
use Rattle.cosem_data.specs.declared.cell.CellRef.{CellRef}
use Rattle.meter_theory.specs.Edges.{edge, same_edge}
use Rattle.meter_theory.specs.Lists.{IsIn}
use Rattle.meter_theory.specs.declared.flow.Edge.{Edge}
use Rattle.meter_theory.specs.declared.limits.TheConstants.{OBJECTS}
use Rattle.flow_edges.specs.Causes.{has_cause}
use Rattle.flow_edges.specs.declared.causes.Causes.{Causes}
use Rattle.flow_edges.specs.declared.table.Link.{Link}

-- edges between the cells of a list: own profile
pub record CellEdges : Type 0 where
  pub cells : List CellRef
  pub edges : List Edge

-- what no list of cells has: own profile
abbrev pub no_cell : CellRef
no_cell = cell 0 (record { 0 = [] }) 0

-- the cell with this number: own profile
abbrev pub cell_at : List CellRef → ℕ → CellRef
cell_at cells i = get_or cells i no_cell

-- the edge that a link between numbers stands for: own profile
abbrev pub edge_at : List CellRef → Link → Edge
edge_at cells l = edge l.cause (cell_at cells l.source) (cell_at cells l.target)

-- an edge with its cause stands between the cells with its numbers: own profile
abbrev pub has_link : CellEdges → Link → Bool
has_link t l = list_any (same_edge (edge_at t.cells l)) t.edges

-- each edge is between cells of the list: own profile
abbrev pub AreBetween : List CellRef → List Edge → Type 0
AreBetween cells edges = (e : Edge) → IsIn edges e → IsIn cells e.source × IsIn cells e.target

-- where the mark of a link stands among those of n cells, one for each pair: own profile
abbrev pub place_of : ℕ → Link → ℕ
place_of n l = l.source * n + l.target

-- no cell stands twice, and there are four at most an object: own profile
pub record AreCells (cells : List CellRef) : Type 0 where
  pub apart : (i j : ℕ) → i < length cells → j < length cells → same_cell (cell_at cells i) (cell_at cells j) ≡ true → i ≡ j
  pub few : length cells ≤ 4 * OBJECTS

-- both ends are numbers of cells: own profile
abbrev pub IsLink : List CellRef → Link → Type 0
IsLink cells l = (l.source < length cells) × (l.target < length cells)

-- the links are between cells: own profile
abbrev pub AreWithin : List CellRef → List Link → Type 0
AreWithin cells [] = Unit {0}
AreWithin cells (l ∷ ls) = IsLink cells l × AreWithin cells ls

-- a mark for each pair of cells, which has a cause exactly where the edge with this cause was found: own profile
pub record IsMarked (cells : List CellRef) (links : List Link) (marks : List Causes) : Type 0 where
  pub cells_apart : AreCells cells
  pub within : AreWithin cells links
  pub long : length marks ≡ length cells * length cells
  pub marked : (l : Link) → IsLink cells l →
      has_cause (get_or marks (place_of (length cells) l) (record { mask = 0 })) l.cause ≡ list_any (same_edge (edge_at cells l)) (map (edge_at cells) links)
