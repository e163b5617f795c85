use Rattle.std.proofs.Common.{◌≡◌, flat_map, take}
use Rattle.shown_text.specs.Pieces.{facts}
use Rattle.flow_picture.specs.Svg.{box_facts}
use Rattle.flow_picture.proofs.svg.push_boxes.Given as goal

-- the boxes before
abbrev pub invariant-loop-number : goal.invariant-loop-number
invariant-loop-number l = facts l.pieces.items ≡ flat_map (box_facts l.picture.clients.items) (take l.number l.picture.boxes.items)
