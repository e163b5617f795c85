use Rattle.meter_theory.proofs.Guards.{guarded-same}
use Rattle.meter_theory.proofs.laws.guards_lie_in_closed_sets.Goals as goal

pub returns : goal.returns
returns c = guarded-same
