use Rattle.std.proofs.Common.{◌≡◌, map}
use Rattle.flow_edges.specs.Table.{cell_at}
use Rattle.flow_picture.specs.Picture as spec
use Rattle.flow_picture.proofs.drawing.picture.alone.Given as goal

abbrev pub invariant-loop-number : goal.invariant-loop-number
invariant-loop-number l = l.alone.items ≡ map (cell_at l.cells) (spec.alone_of l.number (map (λ cells. cells.items) l.boxes))
