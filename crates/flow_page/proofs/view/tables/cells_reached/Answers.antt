use Rattle.std.proofs.Common.{◌+◌, ◌∙◌, ap₂, map, sym, arith}
use Rattle.std.proofs.lemmas.List.Sums.{sum_by_more}
use Rattle.flow_page.specs.WayTables.{size_of}
use Rattle.flow_page.proofs.view.tables.cells_reached.Goals as goal

pub loop-number-preserved : goal.loop-number-preserved
loop-number-preserved c =
    let f = size_of (map (λ row. row.items) c.args.table.now.rows.now) c.args.told.now in (
      ap₂ (λ a b. a + b) c.loop-number.invariant.0 c.size_of-cells.ensures.is ∙ sym (sum_by_more f c.args.numbers.now c.loop-number.number-index 0 c.loop-number-test.true),
      omega (arith, c.loop-number.invariant.1, c.size_of-cells.ensures.few),
    )
