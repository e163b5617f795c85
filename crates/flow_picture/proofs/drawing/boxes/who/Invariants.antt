use Rattle.std.specs.List.{list_any}
use Rattle.flow_picture.specs.Boxes.{has_cell}
use Rattle.flow_picture.proofs.Sets.{AreSoFar}
use Rattle.flow_picture.proofs.drawing.boxes.who.Given as goal

abbrev pub invariant-loop-client : goal.invariant-loop-client
invariant-loop-client l = AreSoFar (λ c. list_any (has_cell l.ways.plan l.by l.reach c) l.cells) l.client l.clients
