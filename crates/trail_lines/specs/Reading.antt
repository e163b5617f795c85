-- What a line of a trail says. All of it is own profile.
use Rattle.std.specs.Prelude.{ℕ, ◌+◌, nat_le, cond, List, [], ◌∷◌, take, drop, map, codes, Option, Some, None, option_and_then, unwrap_or, if◌then◌else◌}
use Rattle.std.specs.Str.{bytes_eq}
use Rattle.cosem_data.specs.declared.name.LogicalName.{LogicalName}
use Rattle.civil_moment.specs.MomentText.{moment_in}
use Rattle.meter_theory.specs.Plan.{Plan}
use Rattle.meter_theory.specs.Steps.{CaptureAt, ClockAt, ScheduleAt, Step}
use Rattle.meter_theory.specs.Times.{Moment}
use Rattle.value_text.specs.Texts.{name_in}
use Rattle.value_words.specs.WordReading.{number_in}
use Rattle.line_server.specs.Answering.{Take, Task, steps_of}
use Rattle.line_server.specs.Running.{tasks_in}
use Rattle.line_server.specs.Spelling.{first_space, line_of}
use Rattle.line_server.specs.declared.line.Line.TheVariants.{Unreadable}
use Rattle.line_server.specs.declared.reason.Reason.TheVariants as reasons
use Rattle.step_keeping.specs.Keeping.{ticks}
use Rattle.trail_lines.specs.declared.limits.TheConstants as limits
use Rattle.trail_lines.specs.declared.line.TrailLine.{TrailLine}
use Rattle.trail_lines.specs.declared.line.TrailLine.TheVariants.{CaptureIfDue, MoveClock, RunIfDue, Said, SetClock}

-- what follows `set-clock`: a moment
abbrev pub clock_of : Option Moment → TrailLine
clock_of None = Said (Unreadable reasons.Moment)
clock_of (Some moment) = SetClock moment

-- how many seconds a text moves the clock by: 1 to 86400, in decimal without leading zeros
abbrev pub seconds_in : List ℕ → Option ℕ
seconds_in text = option_and_then (λ n. cond (nat_le 1 n) (Some n) None) (number_in limits.MOVE_SECONDS text)

-- what follows `move-clock`
abbrev pub seconds_of : Option ℕ → TrailLine
seconds_of None = Said (Unreadable reasons.Seconds)
seconds_of (Some seconds) = MoveClock seconds

-- what follows `capture-if-due`: the logical name of a profile
abbrev pub capture_of : Option LogicalName → TrailLine
capture_of None = Said (Unreadable reasons.Name)
capture_of (Some profile) = CaptureIfDue profile

-- what follows `run-if-due`: the logical name of a single action schedule
abbrev pub run_of : Option LogicalName → TrailLine
run_of None = Said (Unreadable reasons.Name)
run_of (Some schedule) = RunIfDue schedule

-- what a line says that begins with a word of the trail alone; no client has such a name, for each has a hyphen
abbrev pub own_by : (word text : List ℕ) → Option TrailLine
own_by word text =
    if bytes_eq word (codes "set-clock") then Some (clock_of (moment_in text))
    else if bytes_eq word (codes "move-clock") then Some (seconds_of (seconds_in text))
    else if bytes_eq word (codes "capture-if-due") then Some (capture_of (name_in text))
    else if bytes_eq word (codes "run-if-due") then Some (run_of (name_in text))
    else None

-- the first word, the space at this place, and what follows
abbrev pub own_at : List ℕ → Option ℕ → Option TrailLine
own_at line None = None
own_at line (Some space) = own_by (take space line) (drop (space + 1) line)

-- what a line says: what its own words do, or else what it says as a step line
abbrev pub trail_line_of : Plan → List ℕ → TrailLine
trail_line_of plan line = unwrap_or (own_at line (first_space line)) (Said (line_of plan line))

-- the steps that a line brings beside those of a step line: nothing is offered to objects that no line names
abbrev pub own_steps : TrailLine → List Step
own_steps (Said line) = []
own_steps (SetClock moment) = ClockAt moment ∷ []
own_steps (MoveClock seconds) = ticks seconds
own_steps (CaptureIfDue profile) = CaptureAt profile ∷ []
own_steps (RunIfDue schedule) = ScheduleAt schedule ∷ []

-- what a line gives the meter to do, in order
abbrev pub trail_tasks : Plan → TrailLine → List Task
trail_tasks plan (Said line) = tasks_in plan line
trail_tasks plan line = map Take (own_steps line)

-- the steps that a line of a trail says
abbrev pub says : Plan → List ℕ → List Step
says plan line = steps_of (trail_tasks plan (trail_line_of plan line))
