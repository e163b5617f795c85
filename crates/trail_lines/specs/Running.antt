-- Lines of a trail, answered one after another by a meter. All of it is own profile, but for the APDUs of replies.
use Rattle.std.specs.Prelude.{◌≡◌, ◌≢◌, ℕ, List, [], Option, None, Some, Result}
use Rattle.meter_theory.specs.Plan.{Plan, start}
use Rattle.xdlms_services.specs.Solo.{Alone}
use Rattle.line_server.specs.LineMeter.{TellsUnreadable, meter_after, told}
use Rattle.line_server.specs.Lines.{AnswersAll, Moment}
use Rattle.line_server.specs.Spelling.{unreadable_text}
use Rattle.line_server.specs.declared.fault.LineFault.{LineFault}
use Rattle.line_server.specs.declared.fault.LineFault.TheVariants.{Read, Write, Line, Memory}
use Rattle.line_server.specs.declared.line.Line.TheVariants.{Unreadable}
use Rattle.line_server.specs.declared.reason.Reason.{Reason}
use Rattle.trail_lines.specs.Reading.{trail_line_of, trail_tasks}
use Rattle.trail_lines.specs.declared.line.TrailLine.{TrailLine}
use Rattle.trail_lines.specs.declared.line.TrailLine.TheVariants.{Said}

-- why a line is unreadable, if it is
abbrev pub reason_in : TrailLine → Option Reason
reason_in (Said (Unreadable why)) = Some why
reason_in said = None

-- a line of its own words ends a run: it is unreadable, and its number is told behind the texts that wait; or memory was refused, and they are as they were
abbrev pub EndsOwn : Option Reason → ℕ → (before after : List ℕ) → LineFault → Type 0
EndsOwn (Some why) number before after fault = TellsUnreadable number why before after fault
EndsOwn None number before after fault = (fault ≡ Memory) × (after ≡ before)

-- the line is skipped or gives the meter something to do
abbrev pub IsReadableInTrail : Plan → List ℕ → Type 0
IsReadableInTrail plan line = (why : Reason) → trail_line_of plan line ≢ Said (Unreadable why)

-- a line was answered by this text: the replies to what it asks, and nothing of the steps of the meter itself
abbrev pub AnswersTrailLine : Alone → ℕ → List ℕ → List ℕ → Alone → Type 0
AnswersTrailLine old number line text new =
    IsReadableInTrail old.plan line × (text ≡ told old.plan old.meter (trail_tasks old.plan (trail_line_of old.plan line)))
    × (new ≡ record { plan = old.plan; meter = meter_after old.plan old.meter (trail_tasks old.plan (trail_line_of old.plan line)) })

-- a line ended the run, and this text tells it: it is unreadable, and its number is told; or memory was refused
abbrev pub StopsAtTrailLine : Alone → ℕ → List ℕ → List ℕ → LineFault → Type 0
StopsAtTrailLine old number line text Read = ⊥
StopsAtTrailLine old number line text Write = ⊥
StopsAtTrailLine old number line text (Line n why) = (trail_line_of old.plan line ≡ Said (Unreadable why)) × (n ≡ number) × (text ≡ unreadable_text number)
StopsAtTrailLine old number line text Memory = text ≡ []

-- how a run of the lines of a trail ends that a meter answers from the start of its plan
abbrev pub RunsTrail : Plan → Moment → Moment → Result ℕ LineFault → Type 0
RunsTrail plan before after result =
    (new : Alone) × AnswersAll AnswersTrailLine StopsAtTrailLine (record { plan = plan; meter = start plan }) new before after result
