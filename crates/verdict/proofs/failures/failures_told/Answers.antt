use Rattle.std.proofs.Common.{◌∙◌}
use Rattle.verdict.proofs.Told.{of-map}
use Rattle.verdict.proofs.failures.failures_told.Goals as goal

pub returns : goal.returns
returns c =
    let map = c.in_ok-map.map in
    of-map c.args.plan.now map.plan c.args.policy.now map.policy c.args.labels.now c.deref.result.now c.lines_of.result c.in_ok-map.ensures.plan c.in_ok-map.ensures.policy (c.deref.ensures.value ∙ c.in_ok-failures.ensures.all) c.lines_of.ensures
