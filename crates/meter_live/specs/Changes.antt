-- How many changes a step is, and what a port may answer. All of it is own profile.
use Rattle.std.specs.Prelude.{◌≡◌, ℕ, Bool, true, false, cond, List}
use Rattle.meter_core.specs.Changing.{is_changing}
use Rattle.meter_core.specs.Memory.{needs_no_memory}
use Rattle.meter_theory.specs.Plan.{Plan, start}
use Rattle.meter_theory.specs.Replies.{Reply, Code, reply_to, run}
use Rattle.meter_theory.specs.Rights.{set_answer, act_answer}
use Rattle.meter_theory.specs.State.{State}
use Rattle.meter_theory.specs.States.{IsState}
use Rattle.meter_theory.specs.Steps.{Step, Get, Set, Act}

-- how many changes a step is
abbrev pub changes_of : Plan → Step → ℕ
changes_of P step = cond (is_changing P step) 1 0

-- the step is a GET
abbrev pub is_get : Step → Bool
is_get (Get c d selection) = true
is_get _ = false

-- what a step is answered after these
abbrev pub answer_after : Plan → List Step → Step → Reply
answer_after P before step = reply_to P (run P (start P) before) step

-- after these steps, this one is answered without memory: of GETs those that are answered by a code other than success
abbrev pub takes_none : Plan → List Step → Step → Bool
takes_none P before step = needs_no_memory P (run P (start P) before) step

-- what may be answered to a step: the result that the plan gives a SET or an ACTION, and to any other step the reply in some
-- state of the plan
abbrev pub Answers : Plan → Step → Reply → Type 0
Answers P (Set c d selected v) reply = reply ≡ Code (set_answer P c d selected v)
Answers P (Act c d argument) reply = reply ≡ Code (act_answer P c d argument)
Answers P step reply = (s : State) × IsState P s × (reply ≡ reply_to P s step)
