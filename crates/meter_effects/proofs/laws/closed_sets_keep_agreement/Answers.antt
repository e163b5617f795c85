use Rattle.meter_effects.proofs.ClosedSets.{operation-keeps, effect-keeps}
use Rattle.meter_effects.proofs.laws.closed_sets_keep_agreement.Goals as goal

pub returns-clause-operation : goal.returns-clause-operation
returns-clause-operation c = λ P S closed.
    operation-keeps c.operations_keep_agreement.ensures c.operations_keep_agreement-2.ensures c.operations_keep_agreement-3.ensures c.operations_keep_agreement-4.ensures c.operations_keep_agreement-5.ensures c.operations_keep_agreement-6.ensures c.operations_keep_agreement-7.ensures P S closed

pub returns-clause-effect : goal.returns-clause-effect
returns-clause-effect c = λ P S closed.
    effect-keeps c.operations_keep_agreement.ensures c.operations_keep_agreement-2.ensures c.operations_keep_agreement-3.ensures c.operations_keep_agreement-4.ensures c.operations_keep_agreement-5.ensures c.operations_keep_agreement-6.ensures c.operations_keep_agreement-7.ensures P S closed
    (c.effects_are_operations.ensures.capture P)
