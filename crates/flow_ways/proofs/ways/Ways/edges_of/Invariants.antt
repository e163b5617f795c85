use Rattle.std.proofs.Common.{◌≡◌, ◌<◌, ◌+◌, ◌++◌, ℕ, Some, length}
use Rattle.meter_theory.specs.Plan.{cells}
use Rattle.meter_theory.specs.Ways.{IsDistance, shown_way}
use Rattle.flow_edges.specs.Table.{cell_at}
use Rattle.flow_ways.proofs.ways.Ways.edges_of.Given as goal

-- the edges so far, and as many more from the place
abbrev pub invariant-loop-behind : goal.invariant-loop-behind
invariant-loop-behind l =
    (left : ℕ) × (l.behind + left ≡ l.distance) × (l.place < length (cells l.self.plan)) × IsDistance l.self.plan l.reach l.client (cell_at (cells l.self.plan) l.place) (Some left)
    × (l.edges.items ++ shown_way l.self.plan l.reach l.client left (cell_at (cells l.self.plan) l.place) ≡ shown_way l.self.plan l.reach l.client l.distance (cell_at (cells l.self.plan) l.cell))
