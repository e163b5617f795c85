use Rattle.std.proofs.Common.{◌≡◌, ◌++◌, map, take}
use Rattle.shown_text.specs.Pieces.{facts, text}
use Rattle.flow_picture.proofs.box_text.put_names.Given as goal

-- the names before
abbrev pub invariant-loop-number : goal.invariant-loop-number
invariant-loop-number l = facts l.pieces.items ≡ facts l.initial.pieces.items ++ map text (map (λ name. name.now) (take l.number l.names))
