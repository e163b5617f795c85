use Rattle.std.proofs.Common.{◌≡◌, ◌<◌, List, ℕ, length}
use Rattle.acse_session.specs.Turns.{Turn}
use Rattle.frame_server.proofs.Standing.{Stands}
use Rattle.frame_server.proofs.serving.answer_input.Given as goal

abbrev pub invariant-loop : goal.invariant-loop
invariant-loop g l = record {
  so_far : (turns : List Turn) × (read : List ℕ) × (held : List ℕ) × Stands g.A.Asker.answers l.plan
      (record { asker = l.fn.asker; unread = g.R.Read.remaining l.fn.reader; written = g.W.Write.contents l.fn.writer })
      (record { asker = l.asker; unread = g.R.Read.remaining l.reader; written = g.W.Write.contents l.writer })
      l.session l.feeder l.place l.total turns read held;
  plan : g.A.Asker.plan_of l.asker ≡ l.plan;
  same_plan : l.session.plan ≡ l.plan;
  room : 0 < length l.buffer;
}
