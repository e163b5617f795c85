use Rattle.flow_map.proofs.Ranges.{flat-next}
use Rattle.flow_page.specs.Changes.{name_in}
use Rattle.flow_page.proofs.view.changes.names_of.Goals as goal

pub loop-client-preserved : goal.loop-client-preserved
loop-client-preserved c = flat-next (name_in c.args.plan.now c.args.set) c.loop-client.client _ _ c.loop-client.invariant c.in_ok-push_name.ensures
