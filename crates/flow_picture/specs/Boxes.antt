-- What is told of a box.
use Rattle.std.specs.Prelude.{◌≤◌, ◌<◌, ℕ, zero, suc, Bool, true, false, List, length, get_or, Option, Some, None}
use Rattle.std.specs.List.{All, filter, list_any, range_with_len}
use Rattle.cosem_data.specs.declared.cell.CellRef.{CellRef}
use Rattle.cosem_data.specs.declared.clients.ClientSet.{ClientSet}
use Rattle.meter_theory.specs.Labels.{has}
use Rattle.meter_theory.specs.Plan.{Plan, cells}
use Rattle.meter_theory.specs.declared.flow.Reach.{Reach}
use Rattle.meter_theory.specs.declared.flow.Reach.TheVariants.{Influence, Learn}
use Rattle.meter_theory.specs.declared.limits.TheConstants.{CLIENTS}
use Rattle.flow_edges.specs.Table.{cell_at}
use Rattle.flow_ways.specs.Found.{distance_of}
use Rattle.flow_picture.specs.declared.picture.PictureBox.{PictureBox}
use Rattle.flow_picture.specs.declared.drawing.boxes.By.{By}
use Rattle.flow_picture.specs.declared.drawing.boxes.By.TheVariants.{Right, Any}

-- a client at this distance has a cell by a right, or has it at all: own profile
abbrev pub is_by : By → Option ℕ → Bool
is_by Right (Some zero) = true
is_by Right (Some (suc d)) = false
is_by Any (Some d) = true
is_by by None = false

-- it has the cell with this number: own profile
abbrev pub has_cell : Plan → By → Reach → ℕ → ℕ → Bool
has_cell P by reach c i = is_by by (distance_of P reach c (cell_at (cells P) i))

-- the clients who have one of the cells of a box: own profile
abbrev pub who : Plan → By → Reach → List ℕ → List ℕ
who P by reach box = filter (λ c. list_any (has_cell P by reach c) box) (range_with_len 0 (length P.clients))

-- the clients of a set
unfoldable pub members : ClientSet → List ℕ
members set = filter (has set) (range_with_len 0 CLIENTS)

-- what is told of a box: own profile
pub record BoxShown : Type 0 where
  pub cell : CellRef
  pub cells : ℕ
  pub changers : List ℕ
  pub readers : List ℕ
  pub influence : List ℕ
  pub learn : List ℕ

abbrev pub box_shown : PictureBox → BoxShown
box_shown box = record {
  cell = box.cell;
  cells = box.cells;
  changers = members box.changers;
  readers = members box.readers;
  influence = members box.influence;
  learn = members box.learn;
}

-- that of the box of the cells with these numbers: the first, how many, and who has one of them (own profile)
abbrev pub box_of : Plan → List ℕ → BoxShown
box_of P box = record {
  cell = cell_at (cells P) (get_or box 0 0);
  cells = length box;
  changers = who P Right Influence box;
  readers = who P Right Learn box;
  influence = who P Any Influence box;
  learn = who P Any Learn box;
}

-- numbers of some of so many cells
pub record IsBox (count : ℕ) (box : List ℕ) : Type 0 where
  pub some : 1 ≤ length box
  pub within : All (λ i. i < count) box
