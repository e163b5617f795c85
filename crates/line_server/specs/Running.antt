-- What is written for the lines that are read. Lines of hex are own profile throughout; what they ask and what is replied is not.
use Rattle.std.specs.Prelude.{◌≡◌, ◌≢◌, ℕ, ◌+◌, ◌^◌, ◌<◌, ◌≤◌, List, [], ◌∷◌, ◌++◌, length, map, ◌⊎◌, All, Result, Ok, Err}
use Rattle.std.specs.List.{flat_map}
use Rattle.std.specs.Io.KnownBytes.{Consumes, Appends, IsAtEnd}
use Rattle.meter_theory.specs.Plan.{Plan, start}
use Rattle.meter_theory.specs.Replies.{replies}
use Rattle.meter_theory.specs.Steps as steps
use Rattle.cosem_data.specs.View.{tree}
use Rattle.line_server.specs.Answering.{Task, Answer, Take, steps_of, apdus_of}
use Rattle.meter_core.specs.Moments.{moment_steps, tick_steps}
use Rattle.line_server.specs.declared.line.Line.{Line as LineValue}
use Rattle.line_server.specs.declared.line.Line.TheVariants.{Ask, Input, Evaluate, At, Ticks, Unreadable}
use Rattle.line_server.specs.declared.reason.Reason.{Reason}
use Rattle.line_server.specs.declared.fault.LineFault.{LineFault}
use Rattle.line_server.specs.declared.fault.LineFault.TheVariants.{Read, Write, Line, Memory}
use Rattle.line_server.specs.Lines.{IsLine, ended, text_of_lines, with_last, Moment, StandsWhole}
use Rattle.line_server.specs.Spelling.{line_of, reply_text, unreadable_text}

-- the line is skipped or gives the meter something to do (own profile)
abbrev pub IsReadable : Plan → List ℕ → Type 0
IsReadable plan line = (why : Reason) → line_of plan line ≢ Unreadable why

-- A run

-- the steps of the meter itself that a line brings, in order: an input, an evaluation, or what a moment or seconds that pass offer (own profile)
abbrev pub own_steps : Plan → LineValue → List steps.Step
own_steps plan (Input cell value) = steps.Input cell (tree value) ∷ []
own_steps plan (Evaluate monitor) = steps.Evaluate monitor ∷ []
own_steps plan (At moment) = moment_steps plan moment
own_steps plan (Ticks seconds) = tick_steps plan seconds
own_steps plan _ = []

-- what a line gives the meter to do, in order: an APDU is answered, and the steps of the meter itself are taken (own profile)
abbrev pub tasks_in : Plan → LineValue → List Task
tasks_in plan (Ask ask) = Answer ask ∷ []
tasks_in plan line = map Take (own_steps plan line)

-- what the lines give it to do, in order (own profile)
abbrev pub tasks_of : Plan → List (List ℕ) → List Task
tasks_of plan lines = flat_map (λ line. tasks_in plan (line_of plan line)) lines

-- what is written for the lines: the meter's replies along the run of the steps that they spell, from its start, each reply to an APDU in a line of its own, and nothing of its own steps (own profile)
abbrev pub printed : Plan → List (List ℕ) → List ℕ
printed plan lines = flat_map reply_text (apdus_of (tasks_of plan lines) (replies plan (start plan) (steps_of (tasks_of plan lines))))

-- The promise

-- these lines, each with its end, and the rest were read; all of the lines are readable, and this text was written (own profile)
pub record Heard (plan : Plan) (before after : Moment) (lines : List (List ℕ)) (rest text : List ℕ) : Type 0 where
  pub each : All IsLine lines
  pub readable : All (IsReadable plan) lines
  pub read : Consumes before.unread after.unread (text_of_lines lines ++ rest)
  pub wrote : Appends before.written after.written text

-- what is written for lines (own profile)
abbrev pub Telling : Type 0
Telling = List (List ℕ) → List ℕ

-- what is written for a line behind these: what it adds, or that it is unreadable (own profile)
abbrev pub IsTextFor : Plan → Telling → List (List ℕ) → List ℕ → List ℕ → Type 0
IsTextFor plan telling lines line text =
    (telling (lines ++ line ∷ []) ≡ telling lines ++ text) ⊎ ((why : Reason) × (line_of plan line ≡ Unreadable why) × (text ≡ unreadable_text (length lines + 1)))

-- what a fault says of what was read and written, where this is written for lines (own profile)
abbrev pub StopsTelling : Plan → Telling → Moment → Moment → LineFault → Type 0
-- all whole lines were answered, and one more has begun at most, unless the count of bytes came to its end
StopsTelling plan telling before after Read =
    (lines : List (List ℕ)) × (rest : List ℕ) × Heard plan before after lines rest (telling lines) × (IsLine rest ⊎ (2 ^ 64 ≤ length (text_of_lines lines ++ rest)))
-- the lines before one were answered, and of what is written for it a beginning was written and something is left
StopsTelling plan telling before after Write =
    (lines : List (List ℕ)) × (rest : List ℕ) × (line : List ℕ) × (front : List ℕ) × (left : List ℕ) × Heard plan before after lines rest (telling lines ++ front)
    × StandsWhole after.unread line rest × IsTextFor plan telling lines line (front ++ left) × (0 < length left)
-- the lines before the first unreadable one were answered, and its number from 1 was told; this is why
StopsTelling plan telling before after (Line number why) =
    (lines : List (List ℕ)) × (rest : List ℕ) × (line : List ℕ) × Heard plan before after lines rest (telling lines ++ unreadable_text number)
    × StandsWhole after.unread line rest × (line_of plan line ≡ Unreadable why) × (number ≡ length lines + 1)
-- some lines were answered, and nothing else was written
StopsTelling plan telling before after Memory =
    (lines : List (List ℕ)) × (rest : List ℕ) × Heard plan before after lines rest (telling lines)

-- how a run of lines ends for which this is written: all of the input was read and answered, and this is the number of its lines; or a fault stopped it (own profile)
abbrev pub RunsTelling : Plan → Telling → Moment → Moment → Result ℕ LineFault → Type 0
RunsTelling plan telling before after (Ok count) =
    (lines : List (List ℕ)) × (last : List ℕ) × Heard plan before after lines last (telling (with_last lines last))
    × IsLine last × IsReadable plan last × IsAtEnd after.unread × (count ≡ length (with_last lines last))
RunsTelling plan telling before after (Err fault) = StopsTelling plan telling before after fault

-- how a run of lines ends that a meter answers (own profile)
abbrev pub RunsLines : Plan → Moment → Moment → Result ℕ LineFault → Type 0
RunsLines plan before after result = RunsTelling plan (printed plan) before after result

-- The input decides the answer

-- a fault that may come anywhere, whatever the input (own profile)
abbrev pub IsOther : Result ℕ LineFault → Type 0
IsOther (Ok count) = ⊥
IsOther (Err Read) = Unit {0}
IsOther (Err Write) = Unit {0}
IsOther (Err (Line number why)) = ⊥
IsOther (Err Memory) = Unit {0}

-- the input is these lines, each with its end, and one more that may end with the input, and all of them are readable (own profile)
pub record IsAllReadable (plan : Plan) (input : List ℕ) (lines : List (List ℕ)) (last : List ℕ) : Type 0 where
  pub whole : input ≡ text_of_lines lines ++ last
  pub each : All IsLine lines
  pub readable : All (IsReadable plan) lines
  pub last_is : IsLine last
  pub last_readable : IsReadable plan last

-- behind these readable lines one stands that is unreadable for this reason, with its end or at the end of the input (own profile)
pub record IsFirstBad (plan : Plan) (input : List ℕ) (lines : List (List ℕ)) (line rest : List ℕ) (why : Reason) : Type 0 where
  pub whole : input ≡ text_of_lines lines ++ rest
  pub each : All IsLine lines
  pub readable : All (IsReadable plan) lines
  pub line_is : IsLine line
  pub unreadable : line_of plan line ≡ Unreadable why
  pub stands : ((more : List ℕ) × (rest ≡ ended line ++ more)) ⊎ (rest ≡ line)
