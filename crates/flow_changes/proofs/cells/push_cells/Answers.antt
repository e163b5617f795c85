use Rattle.std.proofs.Common.{◌∙◌, Bool, ap, map, not, refl, sym}
use Rattle.cosem_data.specs.declared.cell.CellRef.{CellRef}
use Rattle.meter_theory.specs.Plan.{is_cell}
use Rattle.flow_edges.specs.Table.{no_cell}
use Rattle.flow_changes.specs.Facts.{HasCell}
use Rattle.flow_changes.specs.Shown.{shown}
use Rattle.flow_changes.proofs.Lists.{kept-more, put-more}
use Rattle.flow_changes.proofs.cells.push_cells.Goals as goal
use Rattle.flow_changes.proofs.cells.push_cells.Goals.{then-not-is_cell+in_ok-push, else-not-is_cell}

pub loop-cell-preserved : goal.loop-cell-preserved
loop-cell-preserved c =
    let p : CellRef → Bool = λ x. not (is_cell c.args.other_plan.now x) in
    let i = c.loop-cell.cell-index in
    let start = map shown c.args.facts.now.items in
    elim c.if-not-is_cell.branch [
      | then-not-is_cell+in_ok-push w ↦
          ap (λ v. map shown v.items) w.facts-is
          ∙ put-more shown HasCell p c.args.cells.now i no_cell start c.loop-cell.facts.items w.push.new.self.items _ c.loop-cell-test.true c.loop-cell.invariant (ap not (sym c.is_cell.ensures ∙ w.if-not-is_cell.true)) refl w.in_ok-push.ensures.items
      | else-not-is_cell w ↦
          ap (λ v. map shown v.items) w.facts-is
          ∙ kept-more shown HasCell p c.args.cells.now i no_cell start c.loop-cell.facts.items c.loop-cell-test.true c.loop-cell.invariant (ap not (sym c.is_cell.ensures ∙ w.if-not-is_cell.false))
    ]
