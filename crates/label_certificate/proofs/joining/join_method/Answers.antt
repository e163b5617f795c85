use Rattle.std.proofs.Common.{refl, rules, subst}
use Rattle.meter_theory.specs.Labels.{calls_effects}
use Rattle.meter_theory.specs.Steps.{changed}
use Rattle.label_certificate.specs.Granted.{AreJoined, by_clients}
use Rattle.label_certificate.proofs.Walked.{walk-joins}
use Rattle.label_certificate.proofs.joining.join_method.Goals as goal

pub returns : goal.returns
returns c =
    let P = c.args.instance.now.plan in
    let effects = calls_effects P c.args.method.now in
    let joined = walk-joins P c.args.clients effects _ c.each_of_calls_at.new.visitor c.requires.labels refl c.in-Ok.ensures in
    let same = joined.same_reference in
    subst (AreJoined P (by_clients c.args.clients (changed effects)) c.args.labels.now) (search rules) joined.labels
