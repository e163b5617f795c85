use Rattle.meter_theory.proofs.Rounds.{later, still-before, way-within, within-way}
use Rattle.meter_theory.proofs.laws.rounds_follow_ways.Goals as goal

pub returns-clause-ways : goal.returns-clause-ways
returns-clause-ways c = λ P reach client k x sound there.
    (within-way P sound reach client k x there, λ w. later P sound reach client _ k x w.2 (way-within P sound reach client x w.0 w.1))

pub returns-clause-still : goal.returns-clause-still
returns-clause-still c = λ P reach client k x sound there few. still-before P sound reach client k few x there
