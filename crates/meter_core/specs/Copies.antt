-- Which steps and replies bring a value along: a copy of any other takes no memory.
use Rattle.std.specs.Prelude.{Bool, true, false, is_some}
use Rattle.meter_core.specs.declared.step.Step.{Step}
use Rattle.meter_core.specs.declared.step.Step.TheVariants as steps
use Rattle.meter_core.specs.declared.reply.Reply.{Reply}
use Rattle.meter_core.specs.declared.reply.Reply.TheVariants as replies
use Rattle.meter_core.specs.declared.shown.Shown.{Shown}
use Rattle.meter_core.specs.declared.shown.Shown.TheVariants as shown

abbrev pub has_value : Reply → Bool
has_value (replies.Value value) = true
has_value (replies.Code code) = false
has_value replies.Quiet = false

-- a GET does where it has a selector, and a SET, an ACTION and an input always
abbrev pub brings_value : Step → Bool
brings_value (steps.Get client attribute selection) = is_some selection
brings_value (steps.Set client attribute selected value) = true
brings_value (steps.Act client method argument) = true
brings_value (steps.Input cell value) = true
brings_value (steps.CaptureAt profile) = false
brings_value (steps.Evaluate monitor) = false
brings_value (steps.ScheduleAt schedule) = false
brings_value steps.Tick = false
brings_value (steps.ClockAt moment) = false

-- an answer that is shown: any but a result
abbrev pub shows_value : Shown → Bool
shows_value (shown.Code code) = false
shows_value _ = true
