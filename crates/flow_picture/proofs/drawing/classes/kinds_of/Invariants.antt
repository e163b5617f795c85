use Rattle.std.proofs.Common.{◌≡◌, map, take}
use Rattle.flow_picture.specs.Drawn.{kind_of}
use Rattle.flow_picture.proofs.drawing.classes.kinds_of.Given as goal

abbrev pub invariant-loop-cell : goal.invariant-loop-cell
invariant-loop-cell l = l.kinds.items ≡ map kind_of (take l.cell-index l.cells)
