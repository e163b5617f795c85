-- What is kept of the ways of a plan, and the way that is shown.
use Rattle.std.specs.Prelude.{◌≡◌, ℕ, Bool, ◌&&◌, List, length, Option, Some, None}
use Rattle.cosem_data.specs.Cells.{same_cell}
use Rattle.cosem_data.specs.declared.cell.CellRef.{CellRef}
use Rattle.meter_theory.specs.Plan.{Plan}
use Rattle.meter_theory.specs.Ways.{IsDistance, far_end, is_within, near_end, shown_way}
use Rattle.meter_theory.specs.declared.flow.Edge.{Edge}
use Rattle.meter_theory.specs.declared.flow.Reach.{Reach}
use Rattle.meter_theory.specs.declared.flow.Reach.TheVariants.{Influence, Learn}
use Rattle.flow_edges.specs.declared.table.Link.{Link}
use Rattle.flow_ways.specs.Arriving.{AreEdgesTo}
use Rattle.flow_ways.specs.Distances.{AreDistances}

-- the distances of its cells, and edges by the cells that they lead to: own profile
pub record AreWaysOf (P : Plan) (influence learn : List (Option ℕ)) (influence_links learn_links : List (List Link)) : Type 0 where
  pub influence_are : AreDistances P Influence influence
  pub learn_are : AreDistances P Learn learn
  pub influence_links_are : AreEdgesTo P Influence influence_links
  pub learn_links_are : AreEdgesTo P Learn learn_links

-- the edge leads to the cell from one that the client has within so many rounds: own profile
abbrev pub leads_within : Plan → Reach → ℕ → ℕ → CellRef → Edge → Bool
leads_within P reach c k x e = same_cell (far_end reach e) x && is_within P reach c k (near_end reach e)

-- the edges of the way that is shown, if there is a way: own profile
abbrev pub IsShown : Plan → Reach → ℕ → CellRef → Option (List Edge) → Type 0
IsShown P reach c x None = IsDistance P reach c x None
IsShown P reach c x (Some es) = IsDistance P reach c x (Some (length es)) × (es ≡ shown_way P reach c (length es) x)
