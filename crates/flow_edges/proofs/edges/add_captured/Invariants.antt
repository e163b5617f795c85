use Rattle.std.proofs.Common.{map, take}
use Rattle.meter_theory.specs.Edges as theory
use Rattle.flow_edges.specs.Table.{cell_at}
use Rattle.flow_edges.specs.Gather.{IsGathered}
use Rattle.meter_theory.specs.declared.flow.Cause.TheVariants.{Captured}
use Rattle.flow_edges.proofs.edges.add_captured.Given as goal

abbrev pub invariant-loop-place : goal.invariant-loop-place
invariant-loop-place l = IsGathered l.initial.table l.table (map (λ x. theory.edge Captured x (cell_at l.initial.table.cells l.buffer)) (take l.place l.captured))
