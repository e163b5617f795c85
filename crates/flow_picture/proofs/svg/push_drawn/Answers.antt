use Rattle.std.proofs.Common.{◌++◌, flat_map}
use Rattle.flow_picture.specs.Svg.{alone_facts, arrow_facts, box_facts, head_facts}
use Rattle.flow_picture.proofs.Words.{says-then}
use Rattle.flow_picture.proofs.svg.push_drawn.Goals as goal

pub returns : goal.returns
returns c =
    let p = c.args.picture.now in
    let arrows = flat_map (arrow_facts p.boxes.items) p.arrows.items in
    let boxes = flat_map (box_facts p.clients.items) p.boxes.items in
    let alone = alone_facts p.alone.items in
    let rest = says-then boxes alone _ _ _ _ c.in_ok-push_boxes.ensures c.push_alone.ensures in
    says-then (head_facts p) (arrows ++ (boxes ++ alone)) _ _ _ _ c.in_ok-push_head.ensures (says-then arrows (boxes ++ alone) _ _ _ _ c.in_ok-push_arrows.ensures rest)
