use Rattle.std.proofs.Common.{◌≡◌, take}
use Rattle.flow_map.specs.Grouping.{firsts}
use Rattle.flow_picture.specs.Arrows.{same_between}
use Rattle.flow_picture.proofs.drawing.arrows.first_between.Given as goal

abbrev pub invariant-loop-one : goal.invariant-loop-one
invariant-loop-one l = l.ends.items ≡ firsts same_between (take l.one-index l.all)
