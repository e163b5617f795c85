use Rattle.meter_theory.proofs.Ways.{least-ways}
use Rattle.meter_theory.proofs.laws.least_labels_are_ways.Goals as goal

pub returns : goal.returns
returns c = λ P least reach k x sound l there. least-ways P sound least l reach k x there
