-- A meter alone, which answers lines. All of it is own profile.
use Rattle.std.specs.Prelude.{◌≡◌, ℕ, List, [], ◌∷◌, ◌++◌}
use Rattle.std.specs.List.{flat_map}
use Rattle.meter_theory.specs.Plan.{Plan}
use Rattle.meter_theory.specs.State.{State}
use Rattle.meter_theory.specs.Steps.{next}
use Rattle.xdlms_services.specs.Solo.{Alone}
use Rattle.line_server.specs.Answering.{Task, Answer, Take, next_of, reply_of_ask}
use Rattle.line_server.specs.declared.line.Line.TheVariants.{Unreadable}
use Rattle.line_server.specs.declared.reason.Reason.{Reason}
use Rattle.line_server.specs.declared.fault.LineFault.{LineFault}
use Rattle.line_server.specs.declared.fault.LineFault.TheVariants.{Read, Write, Line, Memory}
use Rattle.line_server.specs.Spelling.{line_of, reply_text, unreadable_text}
use Rattle.line_server.specs.Running.{IsReadable, tasks_in}

-- the meter after a task (own profile)
abbrev pub next_by_task : Plan → State → Task → State
next_by_task plan meter (Answer ask) = next_of plan meter ask
next_by_task plan meter (Take step) = next plan meter step

-- the meter after all of these tasks (own profile)
abbrev pub meter_after : Plan → State → List Task → State
meter_after plan meter [] = meter
meter_after plan meter (task ∷ tasks) = meter_after plan (next_by_task plan meter task) tasks

-- the APDUs that are replied, one after another (own profile)
abbrev pub replies_to : Plan → State → List Task → List (List ℕ)
replies_to plan meter [] = []
replies_to plan meter (Answer ask ∷ tasks) = reply_of_ask plan meter ask ∷ replies_to plan (next_of plan meter ask) tasks
replies_to plan meter (Take step ∷ tasks) = replies_to plan (next plan meter step) tasks

-- what is written for the tasks: each of these APDUs in a line of its own (own profile)
abbrev pub told : Plan → State → List Task → List ℕ
told plan meter tasks = flat_map reply_text (replies_to plan meter tasks)

-- a line was answered by this text (own profile)
abbrev pub AnswersLine : Alone → ℕ → List ℕ → List ℕ → Alone → Type 0
AnswersLine old number line text new =
    IsReadable old.plan line × (text ≡ told old.plan old.meter (tasks_in old.plan (line_of old.plan line)))
    × (new ≡ record { plan = old.plan; meter = meter_after old.plan old.meter (tasks_in old.plan (line_of old.plan line)) })

-- an unreadable line ends a run: its number is told behind the texts that wait; or memory was refused for that, and they are as they were (own profile)
abbrev pub TellsUnreadable : ℕ → Reason → (before after : List ℕ) → LineFault → Type 0
TellsUnreadable number why before after (Line n told) = (n ≡ number) × (told ≡ why) × (after ≡ before ++ unreadable_text number)
TellsUnreadable number why before after Memory = after ≡ before
TellsUnreadable number why before after _ = ⊥

-- a line over a plan ended the run, and this text tells it (own profile)
abbrev pub StopsOver : Plan → ℕ → List ℕ → List ℕ → LineFault → Type 0
StopsOver plan number line text Read = ⊥
StopsOver plan number line text Write = ⊥
StopsOver plan number line text (Line n why) = (line_of plan line ≡ Unreadable why) × (n ≡ number) × (text ≡ unreadable_text number)
StopsOver plan number line text Memory = text ≡ []

-- the same of a meter alone (own profile)
abbrev pub StopsAtLine : Alone → ℕ → List ℕ → List ℕ → LineFault → Type 0
StopsAtLine old number line text fault = StopsOver old.plan number line text fault
