use Rattle.std.proofs.Common.{◌≡◌, ◌<◌, ◌^◌, List, ℕ, length}
use Rattle.line_server.specs.Lines.{IsLine, Turn}
use Rattle.line_server.specs.Pieces.{Stands, moment}
use Rattle.line_server.proofs.lines.answer_input.Given as goal

abbrev pub invariant-loop : goal.invariant-loop
invariant-loop g l = record {
  so_far : (bytes : List ℕ) × (turns : List Turn)
      × Stands g.A.AnswersLines.answers l.fn.asker l.asker (moment (g.R.Read.remaining l.fn.reader) (g.W.Write.contents l.fn.writer)) (moment (g.R.Read.remaining l.reader) (g.W.Write.contents l.writer))
      bytes turns l.run.feeder l.run.count l.run.waiting.items
      × (length bytes ≡ l.total);
  held : IsLine l.run.feeder;
  fits : l.total < 2 ^ 64;
  room : 0 < length l.buffer;
}
