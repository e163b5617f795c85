-- What a client could notice of the steps that a line asks for. All of it is own profile. Texts are lists of bytes.
use Rattle.std.specs.Prelude.{ℕ, List, [], ◌∷◌, ◌++◌, codes, Option, None, Some, option_map}
use Rattle.std.specs.Fmt.{decimal}
use Rattle.std.specs.Result.{result_unwrap_or}
use Rattle.cosem_data.specs.Names.{name_text}
use Rattle.cosem_data.specs.declared.name.LogicalName.{LogicalName}
use Rattle.flow_checker.specs.Accepted.{Accepted}
use Rattle.flow_checker.specs.Notices.{notice_of}
use Rattle.flow_checker.specs.declared.notice.Notice.{Notice as Noticed}
use Rattle.flow_checker.specs.declared.notice.Notice.TheVariants as notices
use Rattle.meter_core.specs.StepView.{step_of}
use Rattle.meter_theory.specs.Labels.{labelling_of_policy}
use Rattle.meter_theory.specs.Notice.{Notice, first_notice}
use Rattle.meter_theory.specs.Steps.{Step, CaptureAt, Evaluate, ScheduleAt, Tick, ClockAt}
use Rattle.step_words.specs.StepLines.{decoded_step}
use Rattle.value_text.specs.Texts.{cell_text}
use Rattle.line_notices.specs.declared.seen.Seen.{Seen as SeenStep}

-- a step that a client could notice, and what it could notice first of it
pub record Seen : Type 0 where
  pub step : Step
  pub notice : Notice

-- the same of what the code has
abbrev pub seen_of : SeenStep → Seen
seen_of seen = record { step = step_of seen.step; notice = notice_of seen.notice }

-- what the client at this place could notice first of a step, by the policy that was accepted
abbrev pub noticed : Accepted → ℕ → Step → Option Notice
noticed accepted client step = first_notice accepted.plan (labelling_of_policy accepted.plan accepted.policy) client step

-- the step, if the client could notice it
abbrev pub seen_in : Accepted → ℕ → Step → Option Seen
seen_in accepted client step = option_map (λ notice. record { step = step; notice = notice }) (noticed accepted client step)

-- this, or else that
abbrev pub or_else : {A : Type 0} → Option A → Option A → Option A
or_else None that = that
or_else (Some this) that = Some this

-- the first of steps that the client could notice, if it could notice one
abbrev pub first_seen : Accepted → ℕ → List Step → Option Seen
first_seen accepted client [] = None
first_seen accepted client (step ∷ steps) = or_else (seen_in accepted client step) (first_seen accepted client steps)

-- Words

-- what could be noticed: a cell as it is printed
abbrev pub notice_words : Noticed → List ℕ
notice_words notices.Own = codes "its own step"
notice_words notices.InnerClock = codes "the inner clock"
notice_words (notices.Cell x) = cell_text x

-- a word, and a name behind it
abbrev pub named : List ℕ → LogicalName → List ℕ
named word name = word ++ name_text name.0

-- a step of a line: the words of the line, or where the line has more steps its own
abbrev pub step_words : List ℕ → Step → List ℕ
step_words line (CaptureAt n) = named (codes "capture ") n
step_words line (Evaluate n) = named (codes "eval ") n
step_words line (ScheduleAt n) = named (codes "schedule ") n
step_words line Tick = codes "tick"
step_words line (ClockAt t) = codes "clock"
step_words line _ = result_unwrap_or (decoded_step line) []

-- `line N: seen: CELL by STEP`
abbrev pub seen_text : ℕ → List ℕ → SeenStep → List ℕ
seen_text number line seen =
    codes "line " ++ (decimal number ++ (codes ": seen: " ++ (notice_words seen.notice ++ (codes " by " ++ (step_words line (step_of seen.step) ++ codes "\n")))))
