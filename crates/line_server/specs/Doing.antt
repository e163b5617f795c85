-- What lines give an asker to do, and how it is done. All of it is own profile, but for the APDUs that bring replies.
use Rattle.std.specs.Prelude.{◌≡◌, ℕ, List, [], ◌∷◌, ◌++◌, map, Option, Some, None, ◌⊎◌, Result, Ok, Err}
use Rattle.std.specs.List.{flat_map}
use Rattle.cosem_data.specs.declared.memory.Memory.{Memory as NoMemory}
use Rattle.meter_theory.specs.Plan.{Plan}
use Rattle.meter_theory.specs.Steps.{Step}
use Rattle.meter_theory.specs.Replies.{Reply}
use Rattle.xdlms_services.specs.declared.asking.Exception.TheVariants.{Unknown}
use Rattle.xdlms_services.specs.Asking.{Asked, asking_at, apdu_of, exception_bytes}
use Rattle.xdlms_services.specs.Conversation.{Answers, LosesReply}
use Rattle.line_server.specs.Asking.{Ask}
use Rattle.line_server.specs.Answering.{Task, Answer, Take}
use Rattle.line_server.specs.declared.line.Line.TheVariants.{Unreadable}
use Rattle.line_server.specs.declared.fault.LineFault.{LineFault}
use Rattle.line_server.specs.declared.fault.LineFault.TheVariants.{Read, Write, Line, Memory}
use Rattle.line_server.specs.Running.{IsReadable, tasks_in}
use Rattle.line_server.specs.Spelling.{line_of, reply_text, unreadable_text}

-- One APDU

-- what is asked is done by an asker: it took the step, and this APDU brings its reply; where no step is asked, it is as it was, and the APDU is the exception service-unknown and service-not-supported (IEC 62056-5-3, Exception-Response)
abbrev pub DoesAsked : {A : Type 0} → Answers A → A → Option Asked → List ℕ → A → Type 0
DoesAsked answers old None apdu new = (apdu ≡ exception_bytes Unknown) × (new ≡ old)
DoesAsked answers old (Some asked) apdu new = (reply : Reply) × answers old asked.step (Ok reply) new × (apdu ≡ apdu_of asked reply)

-- an APDU of a client is answered by this APDU
unfoldable pub AnswersAsk : {A : Type 0} → Answers A → A → Ask → List ℕ → A → Type 0
AnswersAsk answers old ask apdu new = DoesAsked answers old (asking_at ask.client ask.apdu) apdu new

-- of what is asked nothing was done, or the step was asked once, whatever was replied
abbrev pub MayAsk : {A : Type 0} → Answers A → A → Option Asked → A → Type 0
MayAsk answers old None new = new ≡ old
MayAsk answers old (Some asked) new = (new ≡ old) ⊎ LosesReply answers old new asked

-- the same of what an APDU of a client asks
unfoldable pub FailsAsk : {A : Type 0} → Answers A → A → Ask → A → Type 0
FailsAsk answers old ask new = MayAsk answers old (asking_at ask.client ask.apdu) new

-- Many tasks

-- the tasks are done by an asker, one after another, and these APDUs answer those that ask for one
abbrev pub Does : {A : Type 0} → Answers A → A → List Task → List (List ℕ) → A → Type 0
Does answers old [] apdus new = (apdus ≡ []) × (new ≡ old)
Does {A} answers old (Answer ask ∷ tasks) apdus new =
    (mid : A) × (apdu : List ℕ) × (others : List (List ℕ)) × AnswersAsk answers old ask apdu mid × Does answers mid tasks others new × (apdus ≡ apdu ∷ others)
Does {A} answers old (Take step ∷ tasks) apdus new = (mid : A) × (reply : Reply) × answers old step (Ok reply) mid × Does answers mid tasks apdus new

-- the asker takes steps of its own, one after another, of which nothing is told
abbrev pub TakesAll : {A : Type 0} → Answers A → A → List Step → A → Type 0
TakesAll answers old steps new = Does answers old (map Take steps) [] new

-- it took the first of these steps, and was refused memory for the one behind them
abbrev pub StopsBehind : {A : Type 0} → Answers A → A → List Step → A → Type 0
StopsBehind {A} answers old steps new =
    (front : List Step) × (step : Step) × (rest : List Step) × (mid : A) × (refused : NoMemory) × (steps ≡ front ++ step ∷ rest) × TakesAll answers old front mid × answers mid step (Err refused) new

-- One line

-- what a line does to an asker, and to the texts that wait: what it gives the asker to do is done, and each APDU that answers stands in a line of its own
abbrev pub TakesLine : {A : Type 0} → Answers A → Plan → A → A → ℕ → List ℕ → List ℕ → List ℕ → Result (Unit {0}) LineFault → Type 0
TakesLine answers plan old new number line waiting texts (Ok u) =
    IsReadable plan line × (apdus : List (List ℕ)) × Does answers old (tasks_in plan (line_of plan line)) apdus new × (texts ≡ waiting ++ flat_map reply_text apdus)
TakesLine answers plan old new number line waiting texts (Err Read) = ⊥
TakesLine answers plan old new number line waiting texts (Err Write) = ⊥
TakesLine answers plan old new number line waiting texts (Err (Line n why)) =
    (line_of plan line ≡ Unreadable why) × (n ≡ number) × (texts ≡ waiting ++ unreadable_text number) × (new ≡ old)
TakesLine answers plan old new number line waiting texts (Err Memory) = texts ≡ waiting
