-- What a step and a reply of the code stand for.
use Rattle.std.specs.Prelude.{Bool, true, false, Option, Some, None}
use Rattle.cosem_data.specs.View.{tree}
use Rattle.cosem_data.specs.declared.name.LogicalName.{LogicalName}
use Rattle.meter_theory.specs.Steps as steps
use Rattle.meter_theory.specs.Replies as answers
pub use Rattle.object_model.specs.ArgumentView.{argument_of, selection_of}
use Rattle.meter_core.specs.declared.step.Step.{Step}
use Rattle.meter_core.specs.declared.step.Step.TheVariants as kinds
use Rattle.meter_core.specs.declared.reply.Reply.{Reply}
use Rattle.meter_core.specs.declared.reply.Reply.TheVariants as replies
use Rattle.meter_core.specs.declared.shown.Shown.{Shown}
use Rattle.meter_core.specs.declared.shown.Shown.TheVariants as shown

-- the step of the theory that a step is: own profile
abbrev pub step_of : Step → steps.Step
step_of (kinds.Get client attribute selection) = steps.Get client attribute (selection_of selection)
step_of (kinds.Set client attribute selected value) = steps.Set client attribute selected (argument_of value)
step_of (kinds.Act client method argument) = steps.Act client method (argument_of argument)
step_of (kinds.Input cell value) = steps.Input cell (tree value)
step_of (kinds.CaptureAt profile) = steps.CaptureAt profile
step_of (kinds.Evaluate monitor) = steps.Evaluate monitor
step_of (kinds.ScheduleAt schedule) = steps.ScheduleAt schedule
step_of kinds.Tick = steps.Tick
step_of (kinds.ClockAt moment) = steps.ClockAt moment

-- whether the step is of the clock alone, which takes no memory
abbrev pub sets_clock : Step → Bool
sets_clock kinds.Tick = true
sets_clock (kinds.ClockAt moment) = true
sets_clock _ = false

-- the profile, register monitor or schedule whose turn the step is: own profile
abbrev pub turn_of : Step → Option LogicalName
turn_of (kinds.CaptureAt profile) = Some profile
turn_of (kinds.Evaluate monitor) = Some monitor
turn_of (kinds.ScheduleAt schedule) = Some schedule
turn_of _ = None

-- the reply of the theory that a reply is: own profile
abbrev pub reply_of : Reply → answers.Reply
reply_of (replies.Value value) = answers.Value (tree value)
reply_of (replies.Code code) = answers.Code code
reply_of replies.Quiet = answers.Quiet

-- the reply that a shown answer is: own profile
abbrev pub shown_of : Shown → answers.Reply
shown_of (shown.Value value) = answers.Value (tree value.now)
shown_of (shown.Entries entries) = answers.Value entries
shown_of (shown.Made value) = answers.Value (tree value)
shown_of (shown.Code code) = answers.Code code
