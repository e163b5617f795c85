-- What was asked of a meter, and what it answered.
use Rattle.std.specs.Prelude.{◌≡◌, ℕ, ◌<◌, ◌^◌, List, [], ◌∷◌, ◌++◌, length, Option, Some, None, Result, Ok, Err}
use Rattle.cosem_data.specs.declared.memory.Memory.{Memory}
use Rattle.cosem_axdr.specs.Canonical.{canonical, HasLengths}
use Rattle.meter_theory.specs.Steps.{Step}
use Rattle.meter_theory.specs.Replies.{Reply, Value, Code}
use Rattle.meter_core.specs.StepView.{reply_of}
use Rattle.meter_core.specs.declared.reply.Reply.{Reply as CodeReply}
use Rattle.xdlms_services.specs.Asking.{Asked, IsServiceOf, apdu_of}
use Rattle.xdlms_services.specs.declared.writing.Service.{Service}
use Rattle.xdlms_services.specs.declared.writing.Service.TheVariants as services

-- a step that was asked and its reply, or that memory was refused for it (own profile)
pub record Exchange : Type 0 where
  pub step : Step
  pub reply : Result Reply Memory

-- a request asks one step or none (own profile)
abbrev pub asked_list : Option Exchange → List Exchange
asked_list None = []
asked_list (Some exchange) = exchange ∷ []

-- how an asker answers: from the old, this step may be answered so and leave the new (own profile)
abbrev pub Answers : Type 0 → Type 1
Answers A = A → Step → Result Reply Memory → A → Type 0

-- the conversation leads an asker from its old value to its new one, ask by ask (own profile)
abbrev pub Leads : {A : Type 0} → Answers A → A → List Exchange → A → Type 0
Leads answers old [] new = new ≡ old
Leads {A} answers old (x ∷ xs) new = (between : A) × answers old x.step x.reply between × Leads answers between xs new

-- what the code answers to an ask stands for this (own profile)
abbrev pub answered : Result CodeReply Memory → Result Reply Memory
answered (Ok reply) = Ok (reply_of reply)
answered (Err e) = Err e

-- the service can send the reply: a result; or, to a GET, a value whose lengths and whose block numbers fit four bytes (IEC 62056-5-3, Get-Response-Normal and Get-Response-With-Datablock)
abbrev pub CanSend : Service → Reply → Type 0
CanSend _ (Code code) = Unit {0}
CanSend services.Get (Value value) = HasLengths value × (length (canonical value) < 2 ^ 32)
CanSend _ _ = ⊥

-- the reply to a client's step can be sent to it (own profile)
abbrev pub IsSendable : Step → Reply → Type 0
IsSendable step reply = (service : Service) → IsServiceOf step service → CanSend service reply

-- the step that is asked was taken, and the APDU that brings its reply was put behind what was there (IEC 62056-5-3, Get-Response-Normal, Set-Response-Normal and Action-Response-Normal)
abbrev pub PutsReply : {A : Type 0} → Answers A → A → A → Asked → List ℕ → List ℕ → Type 0
PutsReply answers old new asked before after = (reply : Reply) × answers old asked.step (Ok reply) new × (after ≡ before ++ apdu_of asked reply)

-- the step that is asked was asked once, whatever was replied (own profile)
abbrev pub LosesReply : {A : Type 0} → Answers A → A → A → Asked → Type 0
LosesReply answers old new asked = (reply : Result Reply Memory) × answers old asked.step reply new
