-- The cells that a step may put, guards left aside, and what a client could notice of it.
use Rattle.std.specs.Prelude.{◌≡◌, ◌⊎◌, ℕ, ◌&&◌, true, cond, find, List, [], ◌∷◌, ◌++◌, Option, Some, None, option_map}
use Rattle.cosem_data.specs.declared.cell.CellRef.{CellRef}
use Rattle.cosem_data.specs.declared.name.LogicalName.{LogicalName}
use Rattle.meter_theory.specs.Lists.{IsIn, for_some}
use Rattle.meter_theory.specs.Plan.{Plan, Object, Part, ProfileGeneric, RegisterMonitor, SingleActionSchedule, rule_of, object_at, seen, clock_object, inner_clock, clock}
use Rattle.meter_theory.specs.Access.{is_success}
use Rattle.meter_theory.specs.Rights.{cell_of, method_of, set_answer, act_answer}
use Rattle.meter_theory.specs.Steps.{Capture, changed_by, changed_by_write, changed, method_effects, given_value, is_fed, meets_some, Step, Get, Set, Act, Input, CaptureAt, Evaluate, ScheduleAt, Tick, ClockAt, client_of}
use Rattle.meter_theory.specs.Replies.{is_step_of_client}
use Rattle.meter_theory.specs.Edges.{monitor_changes, schedule_changes}
use Rattle.meter_theory.specs.Labels.{Labelling, may_learn}

-- The cells that a turn of the object with this name may put, whatever its guards: of a profile, a monitor, a schedule.
abbrev pub put_by_capture : LogicalName → Part → List CellRef
put_by_capture n (ProfileGeneric captured period entries) = changed_by (Capture n)
put_by_capture n _ = []

abbrev pub put_by_monitor : Plan → Part → List CellRef
put_by_monitor P (RegisterMonitor monitored th actions) = monitor_changes P actions
put_by_monitor P _ = []

abbrev pub put_by_evaluation : Plan → LogicalName → Part → List CellRef
put_by_evaluation P n (RegisterMonitor monitored th actions) = monitor_changes P actions ++ seen n ∷ []
put_by_evaluation P n _ = []

abbrev pub put_by_schedule : Plan → Part → List CellRef
put_by_schedule P (SingleActionSchedule script type times) = schedule_changes P script
put_by_schedule P _ = []

-- the inner clock is put where a plan has no clock
abbrev pub put_by_moment : Option Object → List CellRef
put_by_moment None = inner_clock ∷ []
put_by_moment (Some o) = []

-- The cells that a step may put, in order: where its code or its kind lets it run, those that it and its scripts can put.
-- Guards and values are left aside.
abbrev pub may_put : Plan → Step → List CellRef
may_put P (Get c d selection) = []
may_put P (Set c d selected v) = cond (is_success (set_answer P c d selected v)) (changed (given_value (cell_of d) v)) []
may_put P (Act c d argument) = cond (is_success (act_answer P c d argument)) (changed (method_effects P (method_of d) argument)) []
may_put P (Input x v) = cond (is_fed P x && meets_some (rule_of P x) v) (changed_by_write x) []
may_put P (CaptureAt n) = for_some (object_at P n) (λ o. put_by_capture n o.part)
may_put P (Evaluate n) = for_some (object_at P n) (λ o. put_by_evaluation P n o.part)
may_put P (ScheduleAt n) = for_some (object_at P n) (λ o. put_by_schedule P o.part)
may_put P Tick = clock P ∷ []
may_put P (ClockAt t) = put_by_moment (clock_object P)

-- The cells behind the guards of a step: a capture puts them where it is due, a monitor or a schedule where a script is.
abbrev pub behind_guards : Plan → Step → List CellRef
behind_guards P (CaptureAt n) = for_some (object_at P n) (λ o. put_by_capture n o.part)
behind_guards P (Evaluate n) = for_some (object_at P n) (λ o. put_by_monitor P o.part)
behind_guards P (ScheduleAt n) = for_some (object_at P n) (λ o. put_by_schedule P o.part)
behind_guards P _ = []

-- What a client could notice of a step: that it is its own, or, by what it may learn, that a cell was put.
pub data Notice : Type 0 where
  Own : Notice
  Changed : CellRef → Notice

-- The step is the client's, or may put a cell that the client may learn.
abbrev pub MayNotice : Plan → Labelling → ℕ → Step → Type 0
MayNotice P Q c step =
    (is_step_of_client c (client_of step) ≡ true)
    ⊎ ((x : CellRef) × IsIn (may_put P step) x × (may_learn Q c x ≡ true))

-- the first that the client could notice of a step, if it could notice anything
abbrev pub first_notice : Plan → Labelling → ℕ → Step → Option Notice
first_notice P Q c step =
    cond (is_step_of_client c (client_of step)) (Some Own) (option_map Changed (find (may_learn Q c) (may_put P step)))
