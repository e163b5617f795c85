use Rattle.std.proofs.Common.{◌≡◌, List, take}
use Rattle.acse_session.specs.Turns.{Turn}
use Rattle.frame_server.specs.Serving.{messages_of, conversation_of, answers_of, Talks}
use Rattle.frame_server.proofs.serving.answer_all.Given as goal

-- the frames so far were answered
abbrev pub invariant-loop-message : goal.invariant-loop-message
invariant-loop-message g l = record {
  so_far : (turns : List Turn) × (messages_of turns ≡ take l.message-index l.messages)
      × Talks g.A.Asker.answers l.fn.asker l.asker (g.W.Write.contents l.fn.writer) (g.W.Write.contents l.writer) l.fn.session l.session turns (conversation_of turns) (answers_of turns);
  plan : g.A.Asker.plan_of l.asker ≡ g.A.Asker.plan_of l.fn.asker;
  same_plan : l.session.plan ≡ l.fn.session.plan;
}
