use Rattle.meter_theory.specs.Labels.{labelling_of_policy}
use Rattle.flow_checker.proofs.check.check.Goals as goal

pub returns-in-Ok-new-clause-influence : goal.returns-in-Ok-new-clause-influence
returns-in-Ok-new-clause-influence c =
    let policy = labelling_of_policy c.args.plan c.args.policy.now in
    (c.admitted_is_influence_safe.ensures.policy c.args.plan policy c.args.labels.now c.known.ensures.sound c.in-Ok.ensures.admitted, c.admitted_is_influence_safe.ensures.labels c.args.plan policy c.args.labels.now c.known.ensures.sound c.in-Ok.ensures.admitted)

pub returns-in-Ok-new-clause-secrecy : goal.returns-in-Ok-new-clause-secrecy
returns-in-Ok-new-clause-secrecy c =
    let policy = labelling_of_policy c.args.plan c.args.policy.now in
    (c.admitted_is_secret.ensures.policy c.args.plan policy c.args.labels.now c.known.ensures.sound c.in-Ok.ensures.admitted, c.admitted_is_secret.ensures.labels c.args.plan policy c.args.labels.now c.known.ensures.sound c.in-Ok.ensures.admitted)
