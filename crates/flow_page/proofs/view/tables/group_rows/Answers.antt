use Rattle.std.proofs.Common.{length, subst, sym}
use Rattle.flow_page.specs.Rows.{IsRow}
use Rattle.flow_page.proofs.RowFacts.{row-there}
use Rattle.flow_page.proofs.view.tables.group_rows.Goals as goal

pub group_of-requires-clause-numbers : goal.group_of-requires-clause-numbers
group_of-requires-clause-numbers c =
    let count = length c.args.told.now in
    subst (IsRow count) (sym c.deref.ensures.value)
    (row-there count c.args.numbers.now c.loop-group.group-index c.group-item.result c.requires.numbers c.loop-group-test.true c.group-item.is)
