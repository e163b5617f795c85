use Rattle.std.proofs.Common.{◌≡◌, ◌+◌, ◌<◌, List, ℕ, ◌∷◌, [], ◌++◌, ap, sym, subst, ◌∙◌, arith, take, drop, length}
use Rattle.std.proofs.lemmas.Result.{err_from_is_err_and}
use Rattle.std.proofs.lemmas.List.{take-append-drop, drop_more, take_more, map-append}
use Rattle.tcp_wrapper.specs.declared.message.Message.{Message}
use Rattle.frame_server.specs.Serving.{message_of, messages_of, conversation_of, answer_of, Talks}
use Rattle.frame_server.proofs.Talking.{Talks-more, stops-there, answers_of-push}
use Rattle.frame_server.proofs.serving.answer_all.Goals as goal

pub returns-in_err-answer_one-clause-all : goal.returns-in_err-answer_one-clause-all
returns-in_err-answer_one-clause-all g c =
    let p = err_from_is_err_and c.from_residual.result c.from_residual.ensures.1 in
    let same : p.0 ≡ c.in_err-answer_one.field-0.0 = p.2 in
    let i = c.loop-message.message-index in
    let messages = c.args.messages.now in
    let f = c.message-item.result in
    let lt : i < length messages = omega arith in
    let t = c.loop-message.invariant.so_far in
    let split : messages ≡ messages_of t.0 ++ f ∷ drop (i + 1) messages =
    sym (take-append-drop i messages) ∙ ap (λ (xs : List Message). take i messages ++ xs) (drop_more messages i f lt ∙ ap (λ (x : Message). x ∷ drop (i + 1) messages) (sym c.message-item.is)) ∙ ap (λ (xs : List Message). xs ++ f ∷ drop (i + 1) messages) (sym t.1) in
    rw (p.1, same) (stops-there g.A.Asker.answers c.args.asker.now c.loop-message.asker c.answer_one.new.asker _ _ _ c.args.session.now c.loop-message.session c.answer_one.new.session t.0 messages f (drop (i + 1) messages) c.in_err-answer_one.field-0.0 split t.2 c.in_err-answer_one.ensures.one)

pub loop-message-preserved : goal.loop-message-preserved
loop-message-preserved g c =
    let i = c.loop-message.message-index in
    let messages = c.args.messages.now in
    let f = c.message-item.result in
    let lt : i < length messages = omega arith in
    let t = c.loop-message.invariant.so_far in
    let one = c.in_ok-answer_one.ensures.one in
    record {
      so_far = (
        t.0 ++ one.0 ∷ [],
        map-append message_of t.0 (one.0 ∷ []) ∙ ap (λ (xs : List Message). xs ++ message_of one.0 ∷ []) t.1 ∙ ap (λ (x : Message). take i messages ++ x ∷ []) (one.1 ∙ c.message-item.is) ∙ sym (take_more messages i f lt),
        subst (λ (w : List ℕ). Talks g.A.Asker.answers c.args.asker.now c.answer_one.new.asker (g.W.Write.contents c.args.writer.now) (g.W.Write.contents c.answer_one.new.writer) c.args.session.now c.answer_one.new.session (t.0 ++ one.0 ∷ []) (conversation_of (t.0 ++ one.0 ∷ [])) w) (sym (answers_of-push t.0 one.0))
            (Talks-more g.A.Asker.answers c.args.asker.now c.loop-message.asker c.answer_one.new.asker _ _ _ c.args.session.now c.loop-message.session c.answer_one.new.session t.0 one.0 (answer_of one.0) t.2 one.2 one.3 one.4),
      );
      plan = c.answer_one.ensures.plan ∙ c.loop-message.invariant.plan;
      same_plan = c.answer_one.ensures.same_plan ∙ c.loop-message.invariant.same_plan;
    }
