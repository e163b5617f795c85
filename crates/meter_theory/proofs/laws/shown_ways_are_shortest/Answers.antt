use Rattle.meter_theory.proofs.Ways.{distance-first, shown-way, way-cell}
use Rattle.meter_theory.proofs.laws.shown_ways_are_shortest.Goals as goal

pub returns : goal.returns
returns c = λ P reach client x d sound h.
    shown-way P sound reach client d x (way-cell P sound reach client x h.0.0 h.0.1) (distance-first P sound reach client d x h)
