-- What a page shows of a plan: its value, as a function of the plan, its policy and what has changed.
use Rattle.std.specs.Prelude.{◌≡◌, ℕ, ◌==◌, false, List, [], ◌++◌, length, map, Option, Some, None}
use Rattle.std.specs.List.{range_with_len}
use Rattle.meter_theory.specs.Edges.{edges}
use Rattle.meter_theory.specs.Labels.{Policy, labelling_of_policy}
use Rattle.meter_theory.specs.Plan.{Plan, cells}
use Rattle.meter_theory.specs.declared.flow.Edge.{Edge}
use Rattle.meter_theory.specs.declared.flow.Label.{Label}
use Rattle.flow_changes.specs.declared.compare.Comparison.{Comparison}
use Rattle.flow_page.specs.declared.matrix.MatrixRow.{MatrixRow}
use Rattle.flow_page.specs.declared.objects.ObjectRow.{ObjectRow}
use Rattle.flow_page.specs.declared.page.CauseCount.{CauseCount}
use Rattle.flow_page.specs.declared.page.Page.{Page}
use Rattle.flow_page.specs.declared.ways.WayTable.{WayTable}
use Rattle.flow_page.specs.Changes.{AreChangesOf}
use Rattle.flow_page.specs.Clients.{AreClients}
use Rattle.flow_page.specs.Marks.{Told}
use Rattle.flow_page.specs.Marked.{matrix_row, row_shown}
use Rattle.flow_page.specs.Objects.{AreObjectRows, cause_count, causes, listed_edges, object_row, object_shown}
use Rattle.flow_page.specs.Rows.{AreRows}
use Rattle.flow_page.specs.WayTables.{IsTable, reached_left, reached_told, refused_left, refused_told}
use Rattle.flow_page.specs.declared.page.Heading.{Heading}
use Rattle.flow_page.specs.declared.view.parts.Chosen.{Chosen}

-- the ways that tables tell: own profile
pub record AreChosen (t : Told) (rows : List (List ℕ)) (chosen : Chosen) : Type 0 where
  pub refused_are : chosen.refused.picks.items ≡ refused_told t rows
  pub refused_left_is : chosen.refused.left ≡ refused_left t rows
  pub reached_are : chosen.reached.picks.items ≡ reached_told t rows
  pub reached_left_is : chosen.reached.left ≡ reached_left t rows
  pub linked_are : chosen.linked.items ≡ refused_told t rows ++ reached_told t rows

-- the matrix with rows of these cells, whose marks are linked to the ways that are told, and both tables: the refused ways with how
-- many cells they lead to if all of them are told (own profile)
pub record AreParts (t : Told) (rows : List (List ℕ)) (shown : List MatrixRow) (refused reached : WayTable) : Type 0 where
  pub matrix_is : map row_shown shown ≡ map (matrix_row t (refused_told t rows ++ reached_told t rows) rows) (range_with_len 0 (length rows))
  pub refused_is : IsTable t.plan rows (refused_told t rows) (refused_left t rows) (refused_left t rows == 0) refused
  pub reached_is : IsTable t.plan rows (reached_told t rows) (reached_left t rows) false reached

-- those by the rows of a plan: own profile
pub record AreMatrix (t : Told) (shown : List MatrixRow) (refused reached : WayTable) : Type 0 where
  pub rows : List (List ℕ)
  pub are_rows : AreRows t rows
  pub are_parts : AreParts t rows shown refused reached

-- the objects of a plan, in rows: own profile
pub record AreObjects (P : Plan) (shown : List ObjectRow) : Type 0 where
  pub numbers : List (List ℕ)
  pub are_rows : AreObjectRows P numbers
  pub rows_are : map object_shown shown ≡ map (object_row P) numbers

-- how many edges there are, how many of each cause, and those that are listed: own profile
pub record AreEdges (P : Plan) (count : ℕ) (counts : List CauseCount) (listed : List Edge) : Type 0 where
  pub count_is : count ≡ length (edges P)
  pub counts_are : counts ≡ map (cause_count (edges P)) causes
  pub listed_are : listed ≡ listed_edges (edges P)

-- the page, but for what has changed: own profile
pub record IsPage (t : Told) (heading : Heading) (page : Page) : Type 0 where
  pub heading_is : page.heading ≡ heading
  -- how much there is
  pub object_count_is : page.object_count ≡ length t.plan.objects
  pub cell_count_is : page.cell_count ≡ length (cells t.plan)
  pub clients_are : AreClients t page.clients.items page.total
  -- the matrix, and both tables of ways
  pub matrix_is : AreMatrix t page.rows.items page.refused page.reached
  -- the objects and the edges
  pub objects_are : AreObjects t.plan page.objects.items
  pub edges_are : AreEdges t.plan page.edge_count page.causes.items page.edges.items

-- for each cell in plan order who has gained it, and who has lost it, if that is told
abbrev pub gained_by : Option Comparison → List Label
gained_by None = []
gained_by (Some comparison) = comparison.gained.items

abbrev pub lost_by : Option Comparison → List Label
lost_by None = []
lost_by (Some comparison) = comparison.lost.items

-- what is told of a plan and a policy, and of a comparison with the configuration before where there is one: own profile
abbrev pub told_of : Plan → Policy → Option Comparison → Told
told_of P Q comparison = record {
  plan = P;
  allowed = map (labelling_of_policy P Q) (cells P);
  gained = gained_by comparison;
  lost = lost_by comparison;
}

-- the page of that, with what has changed: own profile
pub record IsPageOf (P : Plan) (Q : Policy) (comparison : Option Comparison) (heading : Heading) (page : Page) : Type 0 where
  pub page_is : IsPage (told_of P Q comparison) heading page
  pub changes_are : AreChangesOf P comparison page.changes
