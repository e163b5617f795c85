use Rattle.std.proofs.Common.{◌+◌, ◌<◌, ◌^◌, length}
use Rattle.line_server.proofs.Taking.{SoFar}
use Rattle.line_server.proofs.lines.take_piece.Given as goal

-- some lines of the piece were answered, and the rest is left
abbrev pub invariant-loop-part : goal.invariant-loop-part
invariant-loop-part g l = record {
  so_far : SoFar g.A.AnswersLines.answers (record { asker = l.fn.asker; run = l.fn.run; written = g.W.Write.contents l.fn.writer })
      (record { asker = l.asker; run = l.run; written = g.W.Write.contents l.writer }) l.piece l.rest;
  fits : l.run.count + length l.run.feeder + length l.rest < 2 ^ 64;
}

abbrev pub decreases-loop-part : goal.decreases-loop-part
decreases-loop-part g l = length l.rest
