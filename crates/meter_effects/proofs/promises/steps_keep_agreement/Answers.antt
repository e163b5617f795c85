use Rattle.meter_effects.proofs.promises.steps_keep_agreement.Goals as goal

pub returns : goal.returns
returns c = λ P S. c.lawful_effects_keep_agreement.ensures P S (c.effects_are_lawful.ensures P)
