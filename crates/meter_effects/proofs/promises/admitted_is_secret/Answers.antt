use Rattle.meter_effects.proofs.promises.admitted_is_secret.Goals as goal

pub returns-clause-policy : goal.returns-clause-policy
returns-clause-policy c = λ P policy labels sound a. (c.lawful_effects_keep_promises.ensures.secrecy P policy labels sound (c.effects_are_lawful.ensures P) a).0

pub returns-clause-labels : goal.returns-clause-labels
returns-clause-labels c = λ P policy labels sound a. (c.lawful_effects_keep_promises.ensures.secrecy P policy labels sound (c.effects_are_lawful.ensures P) a).1
