use Rattle.std.proofs.Common.{subst}
use Rattle.meter_theory.specs.Sound.{IsSound}
use Rattle.flow_page.proofs.RowFacts.{few-cells}
use Rattle.flow_page.proofs.view.tables.size_of.Goals as goal

pub returns-clause-few : goal.returns-clause-few
returns-clause-few c =
    few-cells c.args.table.now.facts.now.ways.now.plan (subst IsSound c.plan.ensures c.known.ensures.sound) c.args.table.now.rows.now _ c.row_size.result c.args.table.now.are_rows
    (c.requires.picks c.args.number _ c.requires.number).row_within c.row_size.ensures
