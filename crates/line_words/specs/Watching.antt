-- A meter that answers lines and tells of each in words. All of it is own profile.
use Rattle.std.specs.Prelude.{◌≡◌, ℕ, ◌+◌, List, [], ◌∷◌, ◌++◌, Option, Some, None, refl}
use Rattle.std.specs.Coded.{Coded, code_by, coded×, coded_list, coded_option, coded_ℕ}
use Rattle.std.specs.Io.KnownBytes.{Appends, Consumes}
use Rattle.meter_theory.specs.Plan.{Plan, start}
use Rattle.meter_theory.specs.PlanCode.{state_code}
use Rattle.meter_theory.specs.State.{State}
use Rattle.xdlms_services.specs.Solo.{Alone, alone_code}
use Rattle.step_words.specs.StepLines.{decoded_step}
use Rattle.line_words.specs.Changes.{told_part}
use Rattle.line_words.specs.Telling.{told_text}
use Rattle.line_server.specs.declared.fault.LineFault.{LineFault}
use Rattle.line_server.specs.Spelling.{line_of}
use Rattle.line_server.specs.Lines.{text_of_lines, with_last}
use Rattle.line_server.specs.Running.{tasks_in}
use Rattle.line_server.specs.LineMeter.{AnswersLine, StopsAtLine, meter_after, told}

-- a meter alone that is watched: what it held when it was looked at last, unless nothing more is told of it; and what was told, where that is known (own profile)
pub record Watched : Type 0 where
  pub solo : Alone
  pub watch : Option State
  pub told : Option (List ℕ)

-- it is stored as pairs
abbrev pub watched_code : Coded Watched
watched_code =
    code_by (Alone × (Option State × Option (List ℕ))) (coded× alone_code (coded× (coded_option state_code) (coded_option (coded_list coded_ℕ)))) (λ w. (w.solo, (w.watch, w.told)))
    (λ p. record { solo = p.0; watch = p.1.0; told = p.1.1 }) (λ _. refl)

-- what is told of a meter alone: what the cells of its plan hold (own profile)
abbrev pub shown : Alone → State
shown solo = told_part solo.plan solo.meter

-- it was looked at last behind the line before, if it is watched (own profile)
abbrev pub IsWatched : Alone → Option State → Type 0
IsWatched solo None = Unit {0}
IsWatched solo (Some held) = held ≡ shown solo

-- what was told where this is to be told of a line: all of it, and the meter is watched on; or a beginning of it, and nothing more is told (own profile)
abbrev pub Tells : List ℕ → State → Option State → Option State → (before after : Option (List ℕ)) → Type 0
Tells text now None watch before after = (watch ≡ None) × (after ≡ before)
Tells text now (Some old) (Some new) before after = (new ≡ now) × Appends before after text
Tells text now (Some old) None before after = (front : List ℕ) × (left : List ℕ) × (text ≡ front ++ left) × Appends before after front

-- a line was answered by this text, and told of (own profile)
abbrev pub AnswersAloud : Watched → ℕ → List ℕ → List ℕ → Watched → Type 0
AnswersAloud old number line text new =
    AnswersLine old.solo number line text new.solo × Tells (told_text number (decoded_step line) text (shown old.solo) (shown new.solo)) (shown new.solo) old.watch new.watch old.told new.told

-- a line ended the run as it ends that of a meter which isn't watched (own profile)
abbrev pub StopsAloud : Watched → ℕ → List ℕ → List ℕ → LineFault → Type 0
StopsAloud old number line text fault = StopsAtLine old.solo number line text fault

-- the meter behind a line (own profile)
abbrev pub meter_behind : Plan → State → List ℕ → State
meter_behind plan meter line = meter_after plan meter (tasks_in plan (line_of plan line))

-- what there is to tell of a line with this number which finds the meter so (own profile)
abbrev pub telling : Plan → ℕ → State → List ℕ → List ℕ
telling plan number meter line =
    told_text number (decoded_step line) (told plan meter (tasks_in plan (line_of plan line))) (told_part plan meter) (told_part plan (meter_behind plan meter line))

-- of lines, before which there are so many (own profile)
abbrev pub tellings : Plan → ℕ → State → List (List ℕ) → List ℕ
tellings plan count meter [] = []
tellings plan count meter (line ∷ lines) = telling plan (count + 1) meter line ++ tellings plan (count + 1) (meter_behind plan meter line) lines

-- the lines of an input that was read whole are told of from the start of the plan: a beginning of what there is to tell (own profile)
abbrev pub TellsAll : Plan → (unread left : Option (List ℕ)) → (before after : Option (List ℕ)) → Type 0
TellsAll plan unread left before after =
    (lines : List (List ℕ)) × (last : List ℕ) × (front : List ℕ) × (behind : List ℕ) × Consumes unread left (text_of_lines lines ++ last)
    × (tellings plan 0 (start plan) (with_last lines last) ≡ front ++ behind) × Appends before after front
