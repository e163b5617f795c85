use Rattle.meter_effects.proofs.ClosedSets.{effect-leaves}
use Rattle.meter_effects.proofs.promises.effects_are_lawful.Goals as goal

pub returns : goal.returns
returns c = λ P. record {
  kept = effect-leaves P;
  agrees = λ e S closed. c.closed_sets_keep_agreement.ensures.effect P S closed e;
}
