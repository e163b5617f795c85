use Rattle.meter_theory.proofs.StepsAgree.{steps-lawful}
use Rattle.meter_theory.proofs.laws.lawful_effects_keep_agreement.Goals as goal

pub returns : goal.returns
returns c = λ P S laws. (steps-lawful P laws).agrees S
