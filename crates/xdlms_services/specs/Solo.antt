-- A meter alone that is asked. All of it is own profile.
use Rattle.std.specs.Prelude.{◌≡◌, Result, Ok, Err, refl}
use Rattle.std.specs.Coded.{Coded, code_by, coded×}
use Rattle.cosem_data.specs.declared.memory.Memory.{Memory}
use Rattle.meter_theory.specs.Plan.{Plan}
use Rattle.meter_theory.specs.PlanCode.{plan_code, state_code}
use Rattle.meter_theory.specs.State.{State}
use Rattle.meter_theory.specs.Steps.{Step, next}
use Rattle.meter_theory.specs.Replies.{Reply, reply_to}

-- a meter, and the plan that it is of
pub record Alone : Type 0 where
  pub plan : Plan
  pub meter : State

-- it is stored as a pair
abbrev pub alone_code : Coded Alone
alone_code = code_by (Plan × State) (coded× plan_code state_code) (λ s. (s.plan, s.meter)) (λ p. record { plan = p.0; meter = p.1 }) (λ _. refl)

-- a step is answered by the reply in the state before it, and the meter is then in the next; where memory was refused, it is as it was
abbrev pub AnswersAlone : Alone → Step → Result Reply Memory → Alone → Type 0
AnswersAlone old step (Ok reply) new = (reply ≡ reply_to old.plan old.meter step) × (new ≡ record { plan = old.plan; meter = next old.plan old.meter step })
AnswersAlone old step (Err e) new = new ≡ old
