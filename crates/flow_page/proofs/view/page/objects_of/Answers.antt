use Rattle.std.proofs.Common.{length, map, subst, sym}
use Rattle.flow_page.specs.Objects.{object_key}
use Rattle.flow_page.specs.Rows.{AreRowsOf}
use Rattle.flow_page.proofs.RowFacts.{alike-rows}
use Rattle.flow_page.proofs.view.page.objects_of.Goals as goal

pub object_rows-requires : goal.object_rows-requires
object_rows-requires c =
    let P = c.args.plan.now in
    subst (λ list. AreRowsOf (length P.objects) (map (λ row. row.items) list)) (sym c.deref.ensures.value)
    (alike-rows (object_key P) (length P.objects) (map (λ row. row.items) c.in_ok-numbers.numbers.items) c.in_ok-numbers.ensures)
