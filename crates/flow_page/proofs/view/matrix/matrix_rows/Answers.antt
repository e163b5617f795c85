use Rattle.std.proofs.Common.{map}
use Rattle.flow_map.proofs.Ranges.{viewed-next}
use Rattle.flow_page.specs.Marks.{told}
use Rattle.flow_page.specs.Marked as spec
use Rattle.flow_page.proofs.view.matrix.matrix_rows.Goals as goal

pub loop-row-preserved : goal.loop-row-preserved
loop-row-preserved c =
    viewed-next spec.row_shown (spec.matrix_row (told c.args.table.now.facts.now) c.args.linked.now (map (λ row. row.items) c.args.table.now.rows.now)) c.loop-row.row _ _ c.in_ok-matrix_row.field-0 c.loop-row.invariant c.in_ok-matrix_row.ensures c.in_ok-push.ensures.items
