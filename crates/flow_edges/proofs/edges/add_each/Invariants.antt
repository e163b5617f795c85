use Rattle.std.proofs.Common.{map, take}
use Rattle.meter_theory.specs.Edges as theory
use Rattle.flow_edges.specs.Table.{cell_at}
use Rattle.flow_edges.specs.Gather.{IsGathered}
use Rattle.flow_edges.proofs.edges.add_each.Given as goal

abbrev pub invariant-loop-source : goal.invariant-loop-source
invariant-loop-source l = IsGathered l.initial.table l.table (map (λ s. theory.edge l.cause (cell_at l.initial.table.cells s) (cell_at l.initial.table.cells l.target)) (take l.source-index l.sources))
