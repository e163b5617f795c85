use Rattle.std.proofs.Common.{◌++◌, ◌∙◌, ap, ap₂}
use Rattle.config_warnings.specs.Found.{client_in, warns_if}
use Rattle.config_warnings.specs.declared.warning.Warning.TheVariants.{NoRight}
use Rattle.config_warnings.proofs.Placed.{number-more}
use Rattle.config_warnings.proofs.finding.push_clients.Goals as goal

pub loop-client-preserved : goal.loop-client-preserved
loop-client-preserved c =
    let P = c.args.plan.now in
    let n = c.loop-client.client in
    c.in_ok-push_if.ensures
    ∙ (ap₂ (λ none client. c.loop-client.all.items ++ warns_if none (NoRight client)) c.has_no_right.ensures c.from.ensures
    ∙ (ap (λ all. all ++ client_in P n) c.loop-client.invariant ∙ number-more (client_in P) c.args.all.now.items n))
