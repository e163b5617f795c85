use Rattle.std.proofs.Common.{◌≡◌, ◌++◌, string_bytes, take}
use Rattle.shown_text.specs.Pieces.{rendered}
use Rattle.shown_text.proofs.pieces.render.Given as goal

-- the pieces before are there
abbrev pub invariant-loop-piece : goal.invariant-loop-piece
invariant-loop-piece l = string_bytes l.page ≡ string_bytes l.initial.page ++ rendered (take l.piece-index l.pieces)
