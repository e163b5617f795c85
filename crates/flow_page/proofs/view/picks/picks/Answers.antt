use Rattle.std.proofs.Common.{map, refl}
use Rattle.flow_page.specs.Marks.{told}
use Rattle.flow_page.specs.WayTables as spec
use Rattle.flow_page.proofs.Pairs.{pair-next}
use Rattle.flow_page.proofs.view.picks.picks.Goals as goal

pub loop-client-preserved : goal.loop-client-preserved
loop-client-preserved c =
    pair-next (spec.client_picks (told c.args.table.now.facts.now) c.args.sort (map (λ row. row.items) c.args.table.now.rows.now)) c.loop-client.client _ _ _ _ _ c.loop-client.invariant
    c.in_ok-push_reach.ensures c.in_ok-push_reach-2.ensures refl
