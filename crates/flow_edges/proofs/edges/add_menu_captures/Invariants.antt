use Rattle.std.proofs.Common.{flat_map, map, take, drop}
use Rattle.meter_theory.specs.Edges as theory
use Rattle.flow_edges.specs.Table.{cell_at}
use Rattle.object_model.specs.Tables.{AreNumbersOf}
use Rattle.flow_edges.specs.Gather.{IsGathered}
use Rattle.meter_theory.specs.declared.flow.Cause.TheVariants.{Captured}
use Rattle.flow_edges.proofs.edges.add_menu_captures.Given as goal

abbrev pub invariant-loop-captured : goal.invariant-loop-captured
invariant-loop-captured l = record {
  edges : IsGathered l.initial.table l.table (map (λ x. theory.edge Captured x (cell_at l.initial.table.cells l.buffer)) (flat_map (λ xs. xs.items) (take l.captured-index l.menu)));
  left : AreNumbersOf l.instance.plan (flat_map (λ xs. xs.items) (drop l.captured-index l.menu)) l.left;
}
