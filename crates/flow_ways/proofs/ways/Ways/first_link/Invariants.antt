use Rattle.std.proofs.Common.{◌≡◌, ◌<◌, ℕ, false, get_or}
use Rattle.meter_theory.specs.Plan.{cells}
use Rattle.flow_edges.specs.Table.{cell_at, edge_at}
use Rattle.flow_ways.specs.Kept.{leads_within}
use Rattle.flow_ways.proofs.Passed.{no_link}
use Rattle.flow_ways.proofs.ways.Ways.first_link.Given as goal

abbrev pub invariant-loop-link : goal.invariant-loop-link
invariant-loop-link l =
    (j : ℕ) → j < l.link-index → leads_within l.self.plan l.reach l.client l.rounds (cell_at (cells l.self.plan) l.cell) (edge_at (cells l.self.plan) (get_or l.link-items j no_link)) ≡ false
