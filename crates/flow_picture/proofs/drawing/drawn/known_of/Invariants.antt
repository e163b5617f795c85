use Rattle.std.proofs.Common.{◌≡◌, take}
use Rattle.flow_picture.specs.Drawn as spec
use Rattle.flow_picture.proofs.drawing.drawn.known_of.Given as goal

abbrev pub invariant-loop-number : goal.invariant-loop-number
invariant-loop-number l = l.cells.items ≡ spec.known_of l.count (take l.number-index l.group)
