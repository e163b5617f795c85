-- The rows of the matrix with their marks.
use Rattle.std.specs.Prelude.{ℕ, ◌-◌, ◌==◌, Bool, ◌&&◌, cond, List, [], ◌∷◌, flat_map, length, map, Option, Some, None, option_map}
use Rattle.std.specs.List.{filter, list_any, range_with_len}
use Rattle.cosem_data.specs.Cells.{same_name}
use Rattle.cosem_data.specs.declared.cell.CellRef.{CellRef}
use Rattle.meter_theory.specs.Plan.{Plan, cells}
use Rattle.meter_theory.specs.declared.flow.Reach.{Reach}
use Rattle.meter_theory.specs.declared.flow.Reach.TheVariants.{Influence, Learn}
use Rattle.flow_edges.specs.Table.{cell_at}
use Rattle.flow_map.specs.declared.kind.Change.{Change}
use Rattle.flow_page.specs.declared.matrix.Found.{Found}
use Rattle.flow_page.specs.declared.matrix.Mark.{Mark}
use Rattle.flow_page.specs.declared.matrix.MatrixRow.{MatrixRow}
use Rattle.flow_page.specs.declared.matrix.Opening.{Opening}
use Rattle.flow_page.specs.declared.matrix.Opening.TheVariants.{First, Next, Same}
use Rattle.flow_page.specs.declared.matrix.WayLink.{WayLink}
use Rattle.flow_page.specs.declared.ways.Anchor.{Anchor}
use Rattle.flow_page.specs.Lines.{Line, line_shown, title_of}
use Rattle.flow_page.specs.Marks.{Told, standing_of}
use Rattle.flow_page.specs.WayTables.{anchor_of, first_of, is_way, leads_to, row_at}
use Rattle.flow_page.specs.declared.view.picks.Pick.{Pick}

-- where a way is told, and its first lines: own profile
pub record LinkShown : Type 0 where
  pub anchor : Anchor
  pub title : List Line

abbrev pub link_shown : WayLink → LinkShown
link_shown link = record { anchor = link.anchor; title = map line_shown link.title.items }

-- a mark: own profile
pub record MarkShown : Type 0 where
  pub reach : Reach
  pub found : Option Found
  pub allowed : Bool
  pub change : Option Change
  pub link : Option LinkShown

abbrev pub mark_shown : Mark → MarkShown
mark_shown mark = record { reach = mark.reach; found = mark.found; allowed = mark.allowed; change = mark.change; link = option_map link_shown mark.link }

abbrev pub link_of : Plan → Reach → ℕ → ℕ → LinkShown
link_of P reach c i = record { anchor = anchor_of reach c i; title = title_of P reach c (cell_at (cells P) i) }

-- the mark of a client and a row, which is that of the row's first cell, with where its way is told if it is one of those to the row
-- (own profile)
abbrev pub mark_of : Told → List Pick → List (List ℕ) → Reach → ℕ → ℕ → MarkShown
mark_of t linked rows reach c r =
    let i = first_of rows r in
    let s = standing_of t reach c i in
    record {
      reach = reach;
      found = s.found;
      allowed = s.allowed;
      change = s.change;
      link = cond (list_any (is_way reach c) linked) (Some (link_of t.plan reach c i)) None;
    }

-- that of influence, and then that of learning: own profile
abbrev pub client_marks : Told → List Pick → List (List ℕ) → ℕ → ℕ → List MarkShown
client_marks t linked rows r c = mark_of t linked rows Influence c r ∷ mark_of t linked rows Learn c r ∷ []

-- one cell stands in the row, which is of the same object as the first cell of the row before: own profile
abbrev pub goes_on : Plan → List (List ℕ) → ℕ → Bool
goes_on P rows r =
    (length (row_at rows r) == 1) && same_name (cell_at (cells P) (first_of rows (r - 1))).name (cell_at (cells P) (first_of rows r)).name

-- where a row stands among the others: own profile
abbrev pub opening_of : Plan → List (List ℕ) → ℕ → Opening
opening_of P rows r = cond (r == 0) First (cond (goes_on P rows r) Same Next)

-- a row: own profile
pub record RowShown : Type 0 where
  pub opening : Opening
  pub cells_are : List CellRef
  pub marks : List MarkShown

abbrev pub row_shown : MatrixRow → RowShown
row_shown row = record { opening = row.opening; cells_are = row.cells.items; marks = map mark_shown row.marks.items }

-- the row with this number: its cells, and the marks of its first (own profile)
abbrev pub matrix_row : Told → List Pick → List (List ℕ) → ℕ → RowShown
matrix_row t linked rows r = record {
  opening = opening_of t.plan rows r;
  cells_are = map (cell_at (cells t.plan)) (row_at rows r);
  marks = flat_map (client_marks t (filter (leads_to r) linked) rows r) (range_with_len 0 (length t.plan.clients));
}
