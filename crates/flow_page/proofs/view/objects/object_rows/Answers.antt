use Rattle.std.proofs.Common.{length, subst, sym}
use Rattle.flow_page.specs.Rows.{IsRow}
use Rattle.flow_page.proofs.RowFacts.{row-there}
use Rattle.flow_page.proofs.view.objects.object_rows.Goals as goal

pub object_row-requires : goal.object_row-requires
object_row-requires c =
    let count = length c.args.plan.now.objects in
    subst (IsRow count) (sym c.deref.ensures.value) (row-there count c.args.rows.now c.loop-row.row-index c.row-item.result c.requires c.loop-row-test.true c.row-item.is)
