use Rattle.std.proofs.Common.{◌≡◌, ◌⊎◌, ◌++◌, ℕ, List, Result, Ok, Err, OnOk, OnErr, inl, inr, refl, ap, subst}
use Rattle.cosem_data.specs.declared.memory.Memory.{Memory}
use Rattle.meter_theory.specs.Plan.{Plan}
use Rattle.meter_theory.specs.State.{State}
use Rattle.meter_theory.specs.Replies.{reply_to}
use Rattle.meter_theory.specs.Steps.{next}
use Rattle.xdlms_services.specs.Asking.{Asked, asked, apdu_of}
use Rattle.xdlms_services.specs.Conversation.{PutsReply, LosesReply}
use Rattle.xdlms_services.specs.Solo.{Alone, AnswersAlone}
use Rattle.xdlms_services.proofs.solo.SoloAsker.put_reply.Goals as goal

abbrev alone : Plan → State → Alone
alone plan meter = record { plan = plan; meter = meter }

puts : (r : Result (Unit {0}) Memory) (plan : Plan) (old new : State) (what : Asked) (before after : List ℕ)
    → OnOk r (after ≡ before ++ apdu_of what (reply_to plan old what.step)) → OnOk r (new ≡ next plan old what.step) → OnOk r (PutsReply AnswersAlone (alone plan old) (alone plan new) what before after)
puts (Ok u) plan old new what before after e n = (reply_to plan old what.step, (refl, ap (alone plan) n), e)
puts (Err m) plan old new what before after e n = tt

loses : (r : Result (Unit {0}) Memory) (plan : Plan) (old new : State) (what : Asked)
    → OnErr r ((new ≡ old) ⊎ (new ≡ next plan old what.step)) → OnErr r (LosesReply AnswersAlone (alone plan old) (alone plan new) what)
loses (Ok u) plan old new what h = tt
loses (Err m) plan old new what (inl same) = (Err m, ap (alone plan) same)
loses (Err m) plan old new what (inr n) = (Ok (reply_to plan old what.step), (refl, ap (alone plan) n))

pub returns : goal.returns
returns c =
    let what = asked c.args.asking in
    let plan = c.self.inside.plan.now in
    let new = c.put_answer.new.meter in
    record {
      reply_put = subst (λ (a : Alone). OnOk c.put_answer.result (PutsReply AnswersAlone a (alone plan new) what c.args.out.now.items c.put_answer.new.out.items)) c.self.view_is
          (puts c.put_answer.result plan c.self.inside.meter new what c.args.out.now.items c.put_answer.new.out.items c.put_answer.ensures.reply c.put_answer.ensures.next);
      reply_lost = subst (λ (a : Alone). OnErr c.put_answer.result (LosesReply AnswersAlone a (alone plan new) what)) c.self.view_is
          (loses c.put_answer.result plan c.self.inside.meter new what c.put_answer.ensures.err);
      same_plan = ap (λ (a : Alone). a.plan) c.self.view_is;
    }
