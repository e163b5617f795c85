use Rattle.std.proofs.Common.{◌++◌, ◌∙◌, ap, map}
use Rattle.std.specs.Option.{option_to_list}
use Rattle.flow_page.specs.Marks.{told}
use Rattle.flow_page.specs.WayTables as spec
use Rattle.flow_page.proofs.Pairs.{behind-next}
use Rattle.flow_page.proofs.view.picks.push_reach.Goals as goal

pub loop-row-preserved : goal.loop-row-preserved
loop-row-preserved c =
    behind-next (spec.row_picks (told c.args.table.now.facts.now) c.args.sort (map (λ row. row.items) c.args.table.now.rows.now) c.args.reach c.args.client) _ c.loop-row.row _ _ c.loop-row.invariant
    (c.in_ok-push_some.ensures ∙ ap (λ pick. c.loop-row.list.items ++ option_to_list pick) c.in_ok-pick.ensures)
