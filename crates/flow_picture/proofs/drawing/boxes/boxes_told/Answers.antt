use Rattle.std.proofs.Common.{length, subst, sym}
use Rattle.meter_theory.specs.Plan.{cells}
use Rattle.flow_picture.specs.Boxes.{IsBox}
use Rattle.flow_picture.proofs.Kept.{box-there}
use Rattle.flow_picture.proofs.drawing.boxes.boxes_told.Goals as goal

pub box_told-requires : goal.box_told-requires
box_told-requires c =
    let count = length (cells c.args.ways.now.plan) in
    subst (IsBox count) (sym c.deref.ensures.value) (box-there count c.args.boxes.now c.loop-cells.cells-index c.cells-item.result c.requires c.loop-cells-test.true c.cells-item.is)
