use Rattle.std.proofs.Common.{◌≡◌, flat_map, take}
use Rattle.shown_text.specs.Pieces.{facts}
use Rattle.flow_picture.specs.Svg.{arrow_facts}
use Rattle.flow_picture.proofs.svg.push_arrows.Given as goal

-- the arrows before
abbrev pub invariant-loop-number : goal.invariant-loop-number
invariant-loop-number l = facts l.pieces.items ≡ flat_map (arrow_facts l.picture.boxes.items) (take l.number l.picture.arrows.items)
