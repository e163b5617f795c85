use Rattle.meter_effects.proofs.promises.steps_are_noticed.Goals as goal

pub returns-clause-changed : goal.returns-clause-changed
returns-clause-changed c = λ P s step x. c.steps_change_what_they_may_put.ensures.changed P s step x (c.effects_are_lawful.ensures P)

pub returns-clause-quiet : goal.returns-clause-quiet
returns-clause-quiet c = λ P Q client step. c.steps_change_what_they_may_put.ensures.quiet P Q client step (c.effects_are_lawful.ensures P)

pub returns-clause-told : goal.returns-clause-told
returns-clause-told c = c.steps_change_what_they_may_put.ensures.told
