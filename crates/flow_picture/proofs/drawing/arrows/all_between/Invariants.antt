use Rattle.std.proofs.Common.{◌≡◌, map, take}
use Rattle.flow_picture.specs.Arrows as spec
use Rattle.flow_picture.proofs.drawing.arrows.all_between.Given as goal

abbrev pub invariant-loop-link : goal.invariant-loop-link
invariant-loop-link l = l.all.items ≡ spec.all_between (map (λ cells. cells.items) l.boxes) (take l.link-index l.links)
