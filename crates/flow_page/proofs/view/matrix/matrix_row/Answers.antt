use Rattle.std.proofs.Common.{get_or, length, subst, sym}
use Rattle.std.proofs.lemmas.List.{get_or_default}
use Rattle.meter_theory.specs.Plan.{cells}
use Rattle.flow_page.specs.Rows.{IsRow}
use Rattle.flow_page.proofs.RowFacts.{row-there}
use Rattle.flow_page.proofs.view.matrix.matrix_row.Goals as goal

pub cells_of-requires : goal.cells_of-requires
cells_of-requires c =
    let count = length (cells c.args.table.now.facts.now.ways.now.plan) in
    let rows = c.args.table.now.rows.now in
    let v = get_or rows c.args.row c.index-table-row.result in
    let row = row-there count rows c.args.row v c.args.table.now.are_rows c.requires.row (get_or_default rows c.args.row c.index-table-row.result v c.requires.row) in
    (subst (IsRow count) (sym c.deref.ensures.value) row).within
