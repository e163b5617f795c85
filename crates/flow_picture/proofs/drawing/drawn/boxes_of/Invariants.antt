use Rattle.std.proofs.Common.{◌≡◌, map, take}
use Rattle.flow_picture.specs.Drawn as spec
use Rattle.flow_picture.proofs.drawing.drawn.boxes_of.Given as goal

abbrev pub invariant-loop-group : goal.invariant-loop-group
invariant-loop-group l = map (λ cells. cells.items) l.boxes.items ≡ spec.marked_boxes l.ends (map (λ group. group.items) (take l.group-index l.groups))
