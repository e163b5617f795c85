use Rattle.std.proofs.Common.{length, map, subst, sym}
use Rattle.meter_theory.specs.Plan.{cells}
use Rattle.flow_page.specs.Marks.{told}
use Rattle.flow_page.specs.Rows.{AreRowsOf, row_key}
use Rattle.flow_page.proofs.RowFacts.{alike-rows}
use Rattle.flow_page.proofs.view.parts.matrix_parts.Goals as goal

pub parts_of-requires : goal.parts_of-requires
parts_of-requires c =
    let P = c.args.facts.now.ways.now.plan in
    subst (λ list. AreRowsOf (length (cells P)) (map (λ row. row.items) list)) (sym c.deref.ensures.value)
    (alike-rows (row_key (told c.args.facts.now)) (length (cells P)) (map (λ row. row.items) c.in_ok-rows.rows.items) c.in_ok-rows.ensures)
