use Rattle.std.proofs.Common.{◌≡◌, ◌++◌, flat_map}
use Rattle.std.specs.List.{range_with_len}
use Rattle.shown_text.specs.Pieces.{facts}
use Rattle.flow_picture.specs.Svg.{class_of}
use Rattle.flow_picture.proofs.boxes.put_classes.Given as goal

-- the classes of the clients before
abbrev pub invariant-loop-client : goal.invariant-loop-client
invariant-loop-client l = facts l.pieces.items ≡ facts l.initial.pieces.items ++ flat_map (class_of l.doing l.set) (range_with_len 0 l.client)
