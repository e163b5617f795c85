use Rattle.flow_map.proofs.Ranges.{viewed-next}
use Rattle.flow_page.specs.Keys.{row_facts}
use Rattle.flow_page.specs.Marks.{told}
use Rattle.flow_page.specs.Rows.{row_key}
use Rattle.flow_page.proofs.view.rows.row_keys.Goals as goal

pub loop-cell-preserved : goal.loop-cell-preserved
loop-cell-preserved c =
    viewed-next row_facts (row_key (told c.args.facts.now)) c.loop-cell.cell _ _ c.in_ok-row_key.field-0 c.loop-cell.invariant c.in_ok-row_key.ensures c.in_ok-push.ensures.items
