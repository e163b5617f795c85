use Rattle.std.proofs.Common.{subst}
use Rattle.meter_theory.specs.Sound.{IsSound}
use Rattle.meter_theory.specs.Rights.{listed, lists}
use Rattle.label_certificate.proofs.Joins.{asked-all}
use Rattle.label_certificate.proofs.granted.clients_with.Goals as goal

pub returns : goal.returns
returns c =
    asked-all c.args.instance.now.plan (subst IsSound c.plan.ensures c.known.ensures.sound) c.args.instance.now.name (λ r. lists (listed c.args.access r) c.args.index) c.loop-client.clients c.loop-client.client c.loop-client-test.false
    c.loop-client.invariant
