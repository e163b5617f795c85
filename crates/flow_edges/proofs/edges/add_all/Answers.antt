use Rattle.std.proofs.Common.{ℕ, ◌≡◌, ◌<◌, length, sym, subst, ◌∙◌, map, take, ◌+◌, true, false, Bool, List}
use Rattle.std.specs.Prelude.{filter, flat_map}
use Rattle.std.proofs.lemmas.List.{append-nil}
use Rattle.cosem_data.specs.declared.cell.CellRef.{CellRef}
use Rattle.meter_theory.specs.Edges as theory
use Rattle.meter_theory.specs.declared.flow.Edge.{Edge}
use Rattle.flow_edges.specs.Table.{cell_at}
use Rattle.flow_edges.specs.Table.{CellEdges}
use Rattle.flow_edges.specs.Gather.{IsGathered}
use Rattle.flow_edges.proofs.Adding.{gathered_join, gathered-is, filter_step}
use Rattle.flow_edges.proofs.edges.add_all.Goals as goal
use Rattle.flow_edges.proofs.edges.add_all.Goals.{then-is_target+in_ok-add_each, else-is_target}

-- what the loop knows after a target
abbrev After : List Bool → (CellRef → List Edge) → CellEdges → ℕ → CellEdges → Type 0
After targets f a i z = record {
  cells : z.cells ≡ a.cells;
  gathered : (p : CellRef → Bool) → targets ≡ map p a.cells → IsGathered a z (flat_map f (filter p (take (i + 1) a.cells)));
}

pub loop-target-preserved : goal.loop-target-preserved
loop-target-preserved c =
    let a = c.args.table.now in
    let mid = c.loop-target.table in
    let targets = c.args.targets.now in
    let i = c.loop-target.target in
    let f : CellRef → List Edge = λ y. map (λ s. theory.edge c.args.cause (cell_at a.cells s) y) c.args.sources.now in
    let less : i < length a.cells = subst (λ n. i < n) c.requires.targets c.loop-target-test.true in
    elim c.if-is_target.branch [
      | then-is_target+in_ok-add_each w ↦
          let new = w.add_each.new.table in
          let same = c.loop-target.invariant.cells in
          let edges_at : List CellRef → List Edge = λ cs. map (λ s. theory.edge c.args.cause (cell_at cs s) (cell_at cs i)) c.args.sources.now in
          let step : IsGathered mid new (f (cell_at a.cells i)) = subst (λ cs. IsGathered mid new (edges_at cs)) same w.in_ok-add_each.ensures in
          subst (After targets f a i) (sym w.table-is) (record {
            cells = step.cells ∙ same;
            gathered = λ p h.
                gathered-is a new _ _ (filter_step p a.cells targets i true f less h w.if-is_target.true)
                (gathered_join a mid new _ _ (c.loop-target.invariant.gathered p h) step);
          })
      | else-is_target w ↦
          subst (After targets f a i) (sym w.table-is) (record {
            cells = c.loop-target.invariant.cells;
            gathered = λ p h.
                gathered-is a mid _ _
                (sym (append-nil (flat_map f (filter p (take i a.cells)))) ∙ filter_step p a.cells targets i false f less h w.if-is_target.false)
                (c.loop-target.invariant.gathered p h);
          })
    ]
