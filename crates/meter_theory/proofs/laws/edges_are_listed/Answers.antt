use Rattle.meter_theory.proofs.Check.{edge-listed, listed-edge, edges-distinct}
use Rattle.meter_theory.proofs.laws.edges_are_listed.Goals as goal

pub returns-clause-all : goal.returns-clause-all
returns-clause-all c = λ P e sound. (edge-listed P sound e, listed-edge P sound e)

pub returns-clause-once : goal.returns-clause-once
returns-clause-once c = edges-distinct
