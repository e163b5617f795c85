use Rattle.std.proofs.Common.{◌∙◌, ◌++◌, ◌∷◌, [], ap, arith}
use Rattle.meter_theory.specs.Plan.{client_named}
use Rattle.flow_changes.proofs.ReachDifferences.{named-more}
use Rattle.flow_changes.proofs.differences.namesakes.Goals as goal

pub loop-client-preserved : goal.loop-client-preserved
loop-client-preserved c =
    c.in_ok-push.ensures.items
    ∙ (ap (λ t. t ++ c.namesake.result ∷ []) c.loop-client.invariant
    ∙ named-more (λ client. client_named c.args.other.now client.name) c.args.plan.now.clients c.loop-client.client c.namesake.result
    (omega (arith, c.loop-client-test.true, c.loop-client.auto.client-end, c.client_count-client-end.ensures)) c.namesake.ensures)
