use Rattle.std.proofs.Common.{◌≡◌, ◌++◌, ℕ, List, Some, None, Result, Ok, Err, OnOk, OnErr, inr, refl, sym, ap, ◌∙◌, option_map}
use Rattle.cosem_data.specs.declared.memory.Memory.{Memory}
use Rattle.xdlms_services.specs.declared.asking.Exception.TheVariants.{Unknown}
use Rattle.xdlms_services.specs.Asking.{Asked, asked, asking_at, exception_bytes}
use Rattle.xdlms_services.specs.Conversation.{Answers, PutsReply, LosesReply}
use Rattle.line_server.specs.Asking.{Ask}
use Rattle.line_server.specs.Doing.{AnswersAsk, FailsAsk}
use Rattle.line_server.proofs.Doing.{answers_ask-at, fails_ask-at, fails_ask-first}
use Rattle.line_server.proofs.answering.answer.Goals as goal

-- what was put for what is asked is what answers the APDU
put : {A : Type 0} (answers : Answers A) (old new : A) (ask : Ask) (given : Asked) (before after : List ℕ) (r : Result (Unit {0}) Memory) → asking_at ask.client ask.apdu ≡ Some given
    → OnOk r (PutsReply answers old new given before after) → OnOk r ((apdu : List ℕ) × AnswersAsk answers old ask apdu new × (after ≡ before ++ apdu))
put answers old new ask given before after (Ok u) e p = (_, answers_ask-at answers old ask (Some given) _ new e (p.0, p.1, refl), p.2)
put answers old new ask given before after (Err m) e p = tt

lost : {A : Type 0} (answers : Answers A) (old new : A) (ask : Ask) (given : Asked) (r : Result (Unit {0}) Memory) → asking_at ask.client ask.apdu ≡ Some given
    → OnErr r (LosesReply answers old new given) → OnErr r (FailsAsk answers old ask new)
lost answers old new ask given (Ok u) e p = tt
lost answers old new ask given (Err m) e p = fails_ask-at answers old ask (Some given) new e (inr p)

excepts : {A : Type 0} (answers : Answers A) (old : A) (ask : Ask) (before after : List ℕ) (r : Result (Unit {0}) Memory) → asking_at ask.client ask.apdu ≡ None
    → OnOk r (after ≡ before ++ exception_bytes Unknown) → OnOk r ((apdu : List ℕ) × AnswersAsk answers old ask apdu old × (after ≡ before ++ apdu))
excepts answers old ask before after (Ok u) e is = (exception_bytes Unknown, answers_ask-at answers old ask None (exception_bytes Unknown) old e (refl, refl), is)
excepts answers old ask before after (Err m) e is = tt

stays-on_err : {A : Type 0} (answers : Answers A) (old : A) (ask : Ask) (r : Result (Unit {0}) Memory) → OnErr r (FailsAsk answers old ask old)
stays-on_err answers old ask (Ok u) = tt
stays-on_err answers old ask (Err m) = fails_ask-first answers old ask

pub returns-in_err-asking-clause-err : goal.returns-in_err-asking-clause-err
returns-in_err-asking-clause-err g c = stays-on_err g.A.Asker.answers c.args.asker.now c.args.ask.now c.from_residual.result

pub returns-in-Some-clause-reply : goal.returns-in-Some-clause-reply
returns-in-Some-clause-reply g c =
    put g.A.Asker.answers c.args.asker.now c.put_reply.new.self c.args.ask.now (asked c.in-Some.asking) c.args.out.now.items c.put_reply.new.out.items c.put_reply.result
    (sym c.in_ok-asking.ensures.asking ∙ ap (option_map asked) c.in-Some.is) c.put_reply.ensures.reply_put

pub returns-in-Some-clause-err : goal.returns-in-Some-clause-err
returns-in-Some-clause-err g c =
    lost g.A.Asker.answers c.args.asker.now c.put_reply.new.self c.args.ask.now (asked c.in-Some.asking) c.put_reply.result
    (sym c.in_ok-asking.ensures.asking ∙ ap (option_map asked) c.in-Some.is) c.put_reply.ensures.reply_lost

pub returns-in-None-clause-reply : goal.returns-in-None-clause-reply
returns-in-None-clause-reply g c =
    excepts g.A.Asker.answers c.args.asker.now c.args.ask.now c.args.out.now.items c.write_exception.new.out.items c.write_exception.result
    (sym c.in_ok-asking.ensures.asking ∙ ap (option_map asked) c.in-None.is) c.write_exception.ensures.ok

pub returns-in-None-clause-err : goal.returns-in-None-clause-err
returns-in-None-clause-err g c = stays-on_err g.A.Asker.answers c.args.asker.now c.args.ask.now c.write_exception.result
