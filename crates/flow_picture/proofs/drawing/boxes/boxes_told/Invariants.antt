use Rattle.std.proofs.Common.{◌≡◌, map, take}
use Rattle.flow_picture.specs.Boxes.{box_of, box_shown}
use Rattle.flow_picture.proofs.drawing.boxes.boxes_told.Given as goal

abbrev pub invariant-loop-cells : goal.invariant-loop-cells
invariant-loop-cells l = map box_shown l.told.items ≡ map (box_of l.ways.plan) (map (λ cells. cells.items) (take l.cells-index l.boxes))
