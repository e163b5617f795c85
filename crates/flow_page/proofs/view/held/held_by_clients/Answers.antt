use Rattle.flow_map.proofs.Ranges.{viewed-next}
use Rattle.flow_page.specs.Objects.{held_of, held_shown}
use Rattle.flow_page.proofs.view.held.held_by_clients.Goals as goal

pub loop-client-preserved : goal.loop-client-preserved
loop-client-preserved c =
    viewed-next held_shown (held_of c.args.plan.now c.args.object.now) c.loop-client.client _ _ c.in_ok-held_by.field-0 c.loop-client.invariant c.in_ok-held_by.ensures c.in_ok-push.ensures.items
