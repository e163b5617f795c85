use Rattle.meter_theory.proofs.Ways.{few-edges, has-distance, next-distance, one-distance}
use Rattle.meter_theory.proofs.laws.cells_have_distances.Goals as goal

pub returns-clause-there : goal.returns-clause-there
returns-clause-there c = λ P reach client x sound there. has-distance P sound reach client x there

pub returns-clause-one : goal.returns-clause-one
returns-clause-one c = λ P reach client x d other sound. one-distance P sound reach client x d other

pub returns-clause-few : goal.returns-clause-few
returns-clause-few c = λ P reach client x d sound. few-edges P sound reach client x d

pub returns-clause-next : goal.returns-clause-next
returns-clause-next c = λ P reach client e d far sound. next-distance P sound reach client e d far
