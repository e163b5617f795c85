use Rattle.std.proofs.Common.{◌≡◌}
use Rattle.shown_text.specs.Pieces.{facts}
use Rattle.flow_picture.proofs.arrows.put_line.Given as goal

-- nothing was said
abbrev pub invariant-loop-pass : goal.invariant-loop-pass
invariant-loop-pass l = facts l.pieces.items ≡ facts l.initial.pieces.items
