use Rattle.std.proofs.Common.{◌≡◌, map, take, Bool}
use Rattle.std.specs.Prelude.{filter, flat_map}
use Rattle.cosem_data.specs.declared.cell.CellRef.{CellRef}
use Rattle.meter_theory.specs.Edges as theory
use Rattle.flow_edges.specs.Table.{cell_at}
use Rattle.flow_edges.specs.Gather.{IsGathered}
use Rattle.flow_edges.proofs.edges.add_all.Given as goal

abbrev pub invariant-loop-target : goal.invariant-loop-target
invariant-loop-target l = record {
  cells : l.table.cells ≡ l.initial.table.cells;
  gathered : (p : CellRef → Bool) → l.targets ≡ map p l.initial.table.cells → IsGathered l.initial.table l.table
      (flat_map (λ y. map (λ s. theory.edge l.cause (cell_at l.initial.table.cells s) y) l.sources) (filter p (take l.target l.initial.table.cells)));
}
