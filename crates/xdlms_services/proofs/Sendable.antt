-- What a meter alone replies can be sent.
use Rattle.std.proofs.Common.{◌≡◌, Bool, true, false, cond, Result, Ok, Err, refl, sym, subst}
use Rattle.std.specs.Prelude.{IfOk}
use Rattle.cosem_data.specs.declared.memory.Memory.{Memory}
use Rattle.meter_theory.specs.Access.{is_success}
use Rattle.meter_theory.specs.Plan.{Plan}
use Rattle.meter_theory.specs.Rights.{get_answer}
use Rattle.meter_theory.specs.Replies.{Reply, Value, Code, Quiet, reply_to}
use Rattle.meter_theory.specs.Sound.{IsSound}
use Rattle.meter_theory.specs.State.{State}
use Rattle.meter_theory.specs.States.{IsState}
use Rattle.meter_theory.specs.Steps.{Step, Get, Set, Act, Input, CaptureAt, Evaluate, ScheduleAt, Tick, ClockAt}
use Rattle.reply_sizes.proofs.Replies.{reply-length, reply-writable}
use Rattle.meter_core.specs.StepView.{reply_of}
use Rattle.meter_core.specs.declared.reply.Reply.{Reply as CodeReply}
use Rattle.xdlms_services.specs.declared.writing.Service.{Service}
use Rattle.xdlms_services.specs.declared.writing.Service.TheVariants as services
use Rattle.xdlms_services.specs.Conversation.{CanSend, IsSendable}

not_quiet : (b : Bool) (value code : Reply) → (value ≡ Quiet → ⊥) → (code ≡ Quiet → ⊥) → cond b value code ≡ Quiet → ⊥
not_quiet true value code v c e = v e
not_quiet false value code v c e = c e

-- a reply to a GET
get-sendable : (P : Plan) → IsSound P → (s : State) → IsState P s → (step : Step) (reply : Reply) → reply_to P s step ≡ reply → (reply ≡ Quiet → ⊥) → CanSend services.Get reply
get-sendable P sound s k step (Value v) e q = (reply-writable P sound s k step v e, reply-length P sound s k step v e)
get-sendable P sound s k step (Code code) e q = tt
get-sendable P sound s k step Quiet e q = absurd (q refl)

pub reply-sendable : (P : Plan) → IsSound P → (s : State) → IsState P s → (step : Step) → IsSendable step (reply_to P s step)
reply-sendable P sound s k (Get c d selection) service e =
    subst (λ (x : Service). CanSend x (reply_to P s (Get c d selection))) (sym e)
    (get-sendable P sound s k (Get c d selection) (reply_to P s (Get c d selection)) refl (not_quiet (is_success (get_answer P c d selection)) _ _ (λ q. cc) (λ q. cc)))
reply-sendable P sound s k (Set c d selected v) service e = subst (λ (x : Service). CanSend x (reply_to P s (Set c d selected v))) (sym e) tt
reply-sendable P sound s k (Act c d argument) service e = subst (λ (x : Service). CanSend x (reply_to P s (Act c d argument))) (sym e) tt
reply-sendable P sound s k (Input x v) service e = absurd e
reply-sendable P sound s k (CaptureAt n) service e = absurd e
reply-sendable P sound s k (Evaluate n) service e = absurd e
reply-sendable P sound s k (ScheduleAt n) service e = absurd e
reply-sendable P sound s k Tick service e = absurd e
reply-sendable P sound s k (ClockAt m) service e = absurd e

-- the same of what the code replied
pub replied-sendable : (step : Step) (r : Result CodeReply Memory) (reply : Reply) → IfOk r (λ x. reply_of x ≡ reply) → IsSendable step reply → IfOk r (λ x. IsSendable step (reply_of x))
replied-sendable step (Ok x) reply e h = subst (IsSendable step) (sym e) h
replied-sendable step (Err m) reply e h = tt
