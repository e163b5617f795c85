-- What the meter replies to an APDU, and what it becomes.
use Rattle.std.specs.Prelude.{ℕ, List, [], ◌∷◌, drop, Option, Some, None, option_map}
use Rattle.std.specs.List.{filter_map}
use Rattle.meter_theory.specs.Plan.{Plan}
use Rattle.meter_theory.specs.State.{State}
use Rattle.meter_theory.specs.Steps.{Step, next}
use Rattle.meter_theory.specs.Replies.{Reply, reply_to}
use Rattle.xdlms_services.specs.declared.asking.Exception.TheVariants.{Unknown}
use Rattle.xdlms_services.specs.Asking.{Asked, asking_at, apdu_of, exception_bytes}
use Rattle.line_server.specs.Asking.{Ask}

-- One APDU

-- what the meter becomes by what is asked, where a step is asked
abbrev pub next_by : Plan → State → Option Asked → State
next_by P s None = s
next_by P s (Some asked) = next P s asked.step

-- the APDU that is replied to what is asked, where a step is asked; any other is replied service-unknown and service-not-supported (IEC 62056-5-3, Exception-Response; that this answers unreadable bytes and Get-Request-Next too is own profile)
abbrev pub reply_by : Plan → State → Option Asked → List ℕ
reply_by P s None = exception_bytes Unknown
reply_by P s (Some asked) = apdu_of asked (reply_to P s asked.step)

-- what the meter becomes when this is asked
unfoldable pub next_of : Plan → State → Ask → State
next_of P s ask = next_by P s (asking_at ask.client ask.apdu)

-- the APDU that is replied to what is asked
unfoldable pub reply_of_ask : Plan → State → Ask → List ℕ
reply_of_ask P s ask = reply_by P s (asking_at ask.client ask.apdu)

-- Many tasks

-- what a line gives the meter to do: to answer an APDU, or to take a step of its own, of which nothing is told (own profile)
pub data Task : Type 0 where
  Answer : Ask → Task
  Take : Step → Task

-- the step of a task; of an APDU, where it asks one
abbrev pub step_in : Task → Option Step
step_in (Answer ask) = option_map (λ asked. asked.step) (asking_at ask.client ask.apdu)
step_in (Take step) = Some step

-- the steps of the tasks, in order
abbrev pub steps_of : List Task → List Step
steps_of tasks = filter_map step_in tasks

-- the APDU for the next of the replies, or the exception where no step is asked, and then the others
abbrev pub apdus_from : Option Asked → List Reply → (List Reply → List (List ℕ)) → List (List ℕ)
apdus_from None replies others = exception_bytes Unknown ∷ others replies
apdus_from (Some asked) [] others = []
apdus_from (Some asked) (reply ∷ replies) others = apdu_of asked reply ∷ others replies

-- the APDUs that bring the meter's replies to those who asked, in order
abbrev pub apdus_of : List Task → List Reply → List (List ℕ)
apdus_of [] replies = []
apdus_of (Answer ask ∷ tasks) replies = apdus_from (asking_at ask.client ask.apdu) replies (apdus_of tasks)
apdus_of (Take step ∷ tasks) replies = apdus_of tasks (drop 1 replies)
