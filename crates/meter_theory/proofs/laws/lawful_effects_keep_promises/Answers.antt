use Rattle.meter_theory.proofs.StepsAgree.{steps-lawful}
use Rattle.meter_theory.proofs.Theorem.{influence-policy, influence-labels}
use Rattle.meter_theory.proofs.Secrecy.{secrecy-policy, secrecy-labels}
use Rattle.meter_theory.proofs.laws.lawful_effects_keep_promises.Goals as goal

pub returns-clause-influence : goal.returns-clause-influence
returns-clause-influence c = λ P policy labels sound laws a.
    let steps = steps-lawful P laws in
    (influence-policy P policy labels sound a steps, influence-labels P policy labels sound a steps)

pub returns-clause-secrecy : goal.returns-clause-secrecy
returns-clause-secrecy c = λ P policy labels sound laws a.
    let steps = steps-lawful P laws in
    (secrecy-policy P policy labels sound a steps, secrecy-labels P policy labels sound a steps)
