use Rattle.std.proofs.Common.{◌≡◌, map, take}
use Rattle.flow_picture.specs.Arrows as spec
use Rattle.flow_picture.proofs.drawing.arrows.arrows_of.Given as goal

abbrev pub invariant-loop-one : goal.invariant-loop-one
invariant-loop-one l = l.arrows.items ≡ map (spec.arrow_of l.all.items) (take l.one-index l.one-items)
