-- Steps that change nothing, and what a port answers.
use Rattle.std.proofs.Common.{◌≡◌, ◌≤◌, Bool, true, false, refl, arith}
use Rattle.std.specs.Prelude.{cond, List, []}
use Rattle.meter_theory.specs.Access.{is_success}
use Rattle.meter_theory.specs.Plan.{Plan}
use Rattle.meter_theory.specs.Replies.{Reply, reply_to}
use Rattle.meter_theory.specs.Rights.{set_answer, act_answer, method_of, cell_of}
use Rattle.meter_theory.specs.State.{State}
use Rattle.meter_theory.specs.States.{IsState}
use Rattle.meter_theory.specs.Steps.{Effect, Step, Get, Set, Act, Input, CaptureAt, Evaluate, ScheduleAt, Tick, ClockAt, next, effects, given_value, method_effects}
use Rattle.meter_core.specs.Changing.{is_changing}
use Rattle.meter_live.specs.Changes.{changes_of, Answers}

-- effects that aren't taken
not_taken : (P : Plan) (s : State) (granted : Bool) (es : List Effect) → granted ≡ false → effects P s (cond granted es []) ≡ s
not_taken P s true es is = absurd (cc is)
not_taken P s false es is = refl

-- a step that may not change the meter doesn't
pub unchanged : (P : Plan) (s : State) (step : Step) → is_changing P step ≡ false → next P s step ≡ s
unchanged P s (Get c d selection) is = refl
unchanged P s (Set c d selected v) is = not_taken P s (is_success (set_answer P c d selected v)) (given_value (cell_of d) v) is
unchanged P s (Act c d argument) is = not_taken P s (is_success (act_answer P c d argument)) (method_effects P (method_of d) argument) is
unchanged P s (Input x v) is = absurd (cc is)
unchanged P s (CaptureAt n) is = absurd (cc is)
unchanged P s (Evaluate n) is = absurd (cc is)
unchanged P s (ScheduleAt n) is = absurd (cc is)
unchanged P s Tick is = absurd (cc is)
unchanged P s (ClockAt m) is = absurd (cc is)

-- the reply in a state of the plan is one that a port may answer
pub answers : (P : Plan) (s : State) (step : Step) (reply : Reply) → IsState P s → reply ≡ reply_to P s step → Answers P step reply
answers P s (Get c d selection) reply fits is = (s, fits, is)
answers P s (Set c d selected v) reply fits is = is
answers P s (Act c d argument) reply fits is = is
answers P s (Input x v) reply fits is = (s, fits, is)
answers P s (CaptureAt n) reply fits is = (s, fits, is)
answers P s (Evaluate n) reply fits is = (s, fits, is)
answers P s (ScheduleAt n) reply fits is = (s, fits, is)
answers P s Tick reply fits is = (s, fits, is)
answers P s (ClockAt m) reply fits is = (s, fits, is)

one_at_most : (b : Bool) → cond b 1 0 ≤ 1
one_at_most true = omega arith
one_at_most false = omega arith

pub changes_le : (P : Plan) (step : Step) → changes_of P step ≤ 1
changes_le P step = one_at_most (is_changing P step)
