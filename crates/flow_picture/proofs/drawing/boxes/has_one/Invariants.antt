use Rattle.std.proofs.Common.{◌≡◌, false, take}
use Rattle.std.specs.List.{list_any}
use Rattle.flow_picture.specs.Boxes as spec
use Rattle.flow_picture.proofs.drawing.boxes.has_one.Given as goal

abbrev pub invariant-loop-cell : goal.invariant-loop-cell
invariant-loop-cell l = list_any (spec.has_cell l.ways.plan l.by l.reach l.client) (take l.cell-index l.cells) ≡ false
