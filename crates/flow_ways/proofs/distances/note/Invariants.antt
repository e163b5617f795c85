use Rattle.flow_ways.proofs.Noting.{AreNotedTo}
use Rattle.flow_ways.proofs.distances.note.Given as goal

abbrev pub invariant-loop-cell : goal.invariant-loop-cell
invariant-loop-cell l = AreNotedTo l.cell l.distance l.sets l.initial.numbers l.numbers
