use Rattle.std.proofs.Common.{◌≡◌, map}
use Rattle.std.specs.List.{range_with_len}
use Rattle.flow_picture.specs.Arrows.{place_of}
use Rattle.flow_picture.proofs.drawing.arrows.places_of.Given as goal

abbrev pub invariant-loop-number : goal.invariant-loop-number
invariant-loop-number l = l.places.items ≡ map (place_of (map (λ cells. cells.items) l.boxes)) (range_with_len 0 l.number)
