use Rattle.std.proofs.Common.{ap, length, map, arith}
use Rattle.std.proofs.lemmas.List.{length-take}
use Rattle.flow_page.specs.Marks.{told}
use Rattle.flow_page.specs.WayTables.{picks, reached_room}
use Rattle.flow_page.specs.declared.view.picks.Sort.TheVariants.{Refused, Reached}
use Rattle.flow_page.specs.declared.view.limits.TheConstants.{WAYS}
use Rattle.flow_page.proofs.Picked.{some-picks}
use Rattle.flow_page.proofs.view.parts.parts_with.Goals as goal

pub way_table-requires-clause-picks : goal.way_table-requires-clause-picks
way_table-requires-clause-picks c =
    some-picks (told c.args.table.now.facts.now) Refused c.args.table.now.rows.now WAYS c.args.chosen.now.refused.picks.items c.requires.chosen.refused_are

pub way_table-requires-clause-few : goal.way_table-requires-clause-few
way_table-requires-clause-few c =
    let t = told c.args.table.now.facts.now in
    omega (arith, ap length c.requires.chosen.refused_are, length-take WAYS (picks t Refused (map (λ row. row.items) c.args.table.now.rows.now)))

pub way_table-requires-2-clause-picks : goal.way_table-requires-2-clause-picks
way_table-requires-2-clause-picks c =
    let t = told c.args.table.now.facts.now in
    some-picks t Reached c.args.table.now.rows.now (reached_room t (map (λ row. row.items) c.args.table.now.rows.now)) c.args.chosen.now.reached.picks.items c.requires.chosen.reached_are

pub way_table-requires-2-clause-few : goal.way_table-requires-2-clause-few
way_table-requires-2-clause-few c =
    let t = told c.args.table.now.facts.now in
    let rows = map (λ row. row.items) c.args.table.now.rows.now in
    omega (arith, ap length c.requires.chosen.reached_are, length-take (reached_room t rows) (picks t Reached rows))
