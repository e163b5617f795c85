use Rattle.std.proofs.Common.{◌≡◌}
use Rattle.shown_text.specs.Pieces.{facts}
use Rattle.flow_picture.proofs.placed.put_placed.Given as goal

-- nothing was said
abbrev pub invariant-loop-before : goal.invariant-loop-before
invariant-loop-before l = facts l.pieces.items ≡ facts l.initial.pieces.items
