-- The steps that a meter takes when its clock moves.
use Rattle.std.specs.Prelude.{ℕ, zero, suc, List, [], ◌∷◌, ◌++◌, Option, Some, None}
use Rattle.std.specs.List.{filter_map}
use Rattle.cosem_data.specs.declared.name.LogicalName.{LogicalName}
use Rattle.meter_theory.specs.Plan.{Plan, Object, Part, ProfileGeneric, RegisterMonitor, SingleActionSchedule}
use Rattle.meter_theory.specs.Steps.{Step, CaptureAt, ClockAt, Evaluate, ScheduleAt, Tick}
use Rattle.meter_theory.specs.Times.{Moment}

-- what is offered to an object with this name and part when the clock has moved: a profile may capture, a register monitor is
-- evaluated, a single action schedule may run its script (own profile)
abbrev pub offered_by : LogicalName → Part → Option Step
offered_by n (ProfileGeneric captured period entries) = Some (CaptureAt n)
offered_by n (RegisterMonitor monitored thresholds actions) = Some (Evaluate n)
offered_by n (SingleActionSchedule script type times) = Some (ScheduleAt n)
offered_by n _ = None

abbrev pub offered : Object → Option Step
offered o = offered_by o.name o.part

-- what is offered to each object, in plan order, whatever the state (own profile)
abbrev pub driven : Plan → List Step
driven plan = filter_map offered plan.objects

-- the steps of a moment: the clock is set to it, and each object is offered its step (own profile)
abbrev pub moment_steps : Plan → Moment → List Step
moment_steps plan t = ClockAt t ∷ driven plan

-- the steps of a second: the clock ticks, and each object is offered its step (own profile)
abbrev pub second_steps : Plan → List Step
second_steps plan = Tick ∷ driven plan

-- the steps of so many seconds, one after another (own profile)
unfoldable pub tick_steps : Plan → ℕ → List Step
tick_steps plan zero = []
tick_steps plan (suc n) = second_steps plan ++ tick_steps plan n
