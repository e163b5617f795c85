use Rattle.std.proofs.Common.{take, flat_map}
use Rattle.meter_theory.specs.Edges as theory
use Rattle.flow_edges.specs.Gather.{IsGathered}
use Rattle.flow_edges.proofs.edges.edge_table.Given as goal

abbrev pub invariant-loop-number : goal.invariant-loop-number
invariant-loop-number l = IsGathered l.initial.table l.table (flat_map (λ o. theory.edges_in l.plan o.name o.part) (take l.number l.objects))
