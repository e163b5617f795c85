use Rattle.flow_ways.proofs.Noting.{IsNotedTo}
use Rattle.flow_ways.proofs.distances.note_cell.Given as goal

abbrev pub invariant-loop-client : goal.invariant-loop-client
invariant-loop-client l = IsNotedTo l.client l.distance l.first l.set l.initial.numbers l.numbers
