-- Links of a table of edges whose edges another table has. All of it is own profile.
use Rattle.std.specs.Prelude.{◌≡◌, ℕ, Bool, ◌<◌, List, Option, None, Some, get_or}
use Rattle.meter_theory.specs.Lists.{some_passes}
use Rattle.meter_theory.specs.declared.flow.Cause.{Cause}
use Rattle.flow_edges.specs.Table.{CellEdges, has_link}
use Rattle.flow_edges.specs.declared.table.Link.{Link}

-- numbers of n cells, where there are any
abbrev pub AreBelow : ℕ → List (Option ℕ) → Type 0
AreBelow n numbers = (i k : ℕ) → get_or numbers i None ≡ Some k → k < n

-- the link between two numbers, if there are both
abbrev pub link_of : Cause → Option ℕ → Option ℕ → Option Link
link_of cause (Some s) (Some t) = Some (record { source = s; target = t; cause = cause })
link_of cause _ _ = None

-- the link between the other numbers of its cells
abbrev pub link_there : List (Option ℕ) → Link → Option Link
link_there numbers l = link_of l.cause (get_or numbers l.source None) (get_or numbers l.target None)

-- and the other table has its edge
abbrev pub is_there : List (Option ℕ) → CellEdges → Link → Bool
is_there numbers other l = some_passes (has_link other) (link_there numbers l)
