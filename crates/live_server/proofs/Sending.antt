-- What a live meter answers can be sent, and what a reader saw it goes on to see.
use Rattle.std.proofs.Common.{◌≡◌, List, sym, subst, Result, Ok, Err}
use Rattle.std.specs.Prelude.{IfOk}
use Rattle.meter_core.specs.StepView.{reply_of}
use Rattle.meter_core.specs.declared.reply.Reply.{Reply as Answer}
use Rattle.meter_live.specs.declared.fault.LiveFault.{LiveFault}
use Rattle.meter_theory.specs.Plan.{Plan, start}
use Rattle.meter_theory.specs.Replies.{Reply, reply_to, run}
use Rattle.meter_theory.specs.Sound.{IsSound}
use Rattle.meter_theory.specs.Steps.{Step, Get, Set, Act, Input, CaptureAt, Evaluate, ScheduleAt, Tick, ClockAt}
use Rattle.meter_theory.proofs.Start.{start-is-state}
use Rattle.meter_theory.proofs.KeepSteps.{run-keeps}
use Rattle.xdlms_services.specs.declared.writing.Service.{Service}
use Rattle.xdlms_services.specs.declared.writing.Service.TheVariants as services
use Rattle.xdlms_services.specs.Conversation.{CanSend, IsSendable}
use Rattle.xdlms_services.proofs.Sendable.{reply-sendable}
use Rattle.meter_live.specs.Changes.{Answers}

-- what a port answers
pub answers-sendable : (P : Plan) → IsSound P → (step : Step) (reply : Reply) → Answers P step reply → IsSendable step reply
answers-sendable P sound (Get c d selection) reply (s, k, is) = subst (IsSendable (Get c d selection)) (sym is) (reply-sendable P sound s k (Get c d selection))
answers-sendable P sound (Set c d selected v) reply is = λ service e. subst (λ (x : Service). CanSend x reply) (sym e) (subst (CanSend services.Set) (sym is) tt)
answers-sendable P sound (Act c d argument) reply is = λ service e. subst (λ (x : Service). CanSend x reply) (sym e) (subst (CanSend services.Act) (sym is) tt)
answers-sendable P sound (Input x v) reply h = λ service e. absurd e
answers-sendable P sound (CaptureAt n) reply h = λ service e. absurd e
answers-sendable P sound (Evaluate n) reply h = λ service e. absurd e
answers-sendable P sound (ScheduleAt n) reply h = λ service e. absurd e
answers-sendable P sound Tick reply h = λ service e. absurd e
answers-sendable P sound (ClockAt m) reply h = λ service e. absurd e

-- what is answered by a port, where a step is taken
pub taken-sendable : (P : Plan) → IsSound P → (step : Step) (r : Result Answer LiveFault) → IfOk r (λ reply. Answers P step (reply_of reply)) → IfOk r (λ reply. IsSendable step (reply_of reply))
taken-sendable P sound step (Ok reply) is = answers-sendable P sound step (reply_of reply) is
taken-sendable P sound step (Err fault) is = tt

-- what a reader answers
pub read-sendable : (P : Plan) → IsSound P → (seen : List Step) (step : Step) (reply : Reply) → reply ≡ reply_to P (run P (start P) seen) step → IsSendable step reply
read-sendable P sound seen step reply is =
    subst (IsSendable step) (sym is) (reply-sendable P sound (run P (start P) seen) (run-keeps P sound (start P) seen (start-is-state P sound)) step)
