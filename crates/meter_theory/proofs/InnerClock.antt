-- The inner clock is looked at, and changes no cell of the plan.
use Rattle.std.proofs.Common.{◌≡◌, Bool, true, false, cond, [], ◌∷◌, refl, sym, ap, ap₂, subst, ◌∙◌, Option, Some, None}
use Rattle.std.proofs.lemmas.Bool.{cond-true}
use Rattle.meter_theory.specs.Lists.{IsIn, for_some}
use Rattle.cosem_data.specs.declared.name.LogicalName.{LogicalName}
use Rattle.cosem_data.specs.declared.cell.CellRef.{CellRef}
use Rattle.meter_theory.specs.Times.{Moment, IsMoment, is_moment, clock_moment, clock_value, is_capture_due, is_schedule_due}
use Rattle.meter_theory.specs.Value.{count_of, elements}
use Rattle.meter_theory.specs.State.{State, keys, value, put}
use Rattle.meter_theory.specs.Menus.{chosen, script_ref_value}
use Rattle.meter_theory.specs.Plan.{Plan, Object, Part, ProfileGeneric, SingleActionSchedule, cells, capture_period, executed_script, execution_time, object_at, inner_clock, clock_object, clock_cell, clock}
use Rattle.meter_theory.specs.Steps.{Put, Capture, effects, effects_of_script, kept, present, captured_at, scheduled_at, effects_of, CaptureAt, ScheduleAt, ClockAt, clock_set, next}
use Rattle.meter_theory.specs.Safety.{HasCells}
use Rattle.meter_theory.proofs.State.{value-put_other, value-put_there}
use Rattle.meter_theory.proofs.Held.{cell_apart, clock_held}
use Rattle.meter_theory.proofs.Clock.{clock_moment-value, kept-value, true-moment}

pub clock-left : (P : Plan) (s : State) (t : Moment) (o : Object) → clock_object P ≡ Some o → next P s (ClockAt t) ≡ s
clock-left P s t o is = ap (λ c. effects P s (clock_set c t)) is

-- where no object is a clock, the moment goes into the inner one
set-inner : (P : Plan) (s : State) (t : Moment) → clock_object P ≡ None → IsMoment t → next P s (ClockAt t) ≡ put s inner_clock (clock_value t)
set-inner P s t none h =
    ap (λ c. effects P s (clock_set c t)) none
    ∙ (ap (effects P s) (cond-true (is_moment t) (Put inner_clock (clock_value t) ∷ []) [] (true-moment t h))
    ∙ ap (put s inner_clock) (kept-value inner_clock t))

pub cells-stay : (P : Plan) (s : State) (t : Moment) (x : CellRef) → IsIn (cells P) x → value (next P s (ClockAt t)) x ≡ value s x
cells-stay P s t x i = at (clock_object P)
  where
    if_set : (b : Bool) → value (effects P s (cond b (Put inner_clock (clock_value t) ∷ []) [])) x ≡ value s x
    if_set true = value-put_other s inner_clock x (kept inner_clock (clock_value t)) (cell_apart P x i)
    if_set false = refl

    at : (o : Option Object) → value (effects P s (clock_set o t)) x ≡ value s x
    at None = if_set (is_moment t)
    at (Some o) = refl

present-set : (P : Plan) (s : State) (t : Moment) → clock_object P ≡ None → HasCells P s → IsMoment t → present P (next P s (ClockAt t)) ≡ t
present-set P s t none is h =
    ap₂ (λ u x. clock_moment (value u x)) (set-inner P s t none h) (ap clock_cell none)
    ∙ (ap clock_moment (value-put_there s inner_clock (clock_value t) key) ∙ clock_moment-value t)
  where
    key : IsIn (keys s) inner_clock
    key = subst (λ x. IsIn (keys s) x) (ap clock_cell none) (subst (λ ks. IsIn ks (clock P)) (sym is) (clock_held P))

period_stays : (P : Plan) (s : State) (t : Moment) (n : LogicalName) → clock_object P ≡ None → IsMoment t → value (next P s (ClockAt t)) (capture_period n) ≡ value s (capture_period n)
period_stays P s t n none h = ap (λ u. value u (capture_period n)) (set-inner P s t none h) ∙ value-put_other s inner_clock (capture_period n) (clock_value t) refl

times_stay : (P : Plan) (s : State) (t : Moment) (n : LogicalName) → clock_object P ≡ None → IsMoment t → value (next P s (ClockAt t)) (execution_time n) ≡ value s (execution_time n)
times_stay P s t n none h = ap (λ u. value u (execution_time n)) (set-inner P s t none h) ∙ value-put_other s inner_clock (execution_time n) (clock_value t) refl

script_stays : (P : Plan) (s : State) (t : Moment) (n : LogicalName) → clock_object P ≡ None → IsMoment t → value (next P s (ClockAt t)) (executed_script n) ≡ value s (executed_script n)
script_stays P s t n none h = ap (λ u. value u (executed_script n)) (set-inner P s t none h) ∙ value-put_other s inner_clock (executed_script n) (clock_value t) refl

pub capture-looks : (P : Plan) (s : State) (t : Moment) (n : LogicalName) → clock_object P ≡ None → HasCells P s → IsMoment t →
    effects_of P (next P s (ClockAt t)) (CaptureAt n) ≡ for_some (object_at P n) (λ o. captured_at s n t o.part)
capture-looks P s t n none is h = at (object_at P n)
  where
    u : State
    u = next P s (ClockAt t)

    of_part : (part : Part) → captured_at u n (present P u) part ≡ captured_at s n t part
    of_part (ProfileGeneric captured period entries) =
        ap₂ (λ v m. cond (is_capture_due (count_of v) m) (Capture n ∷ []) []) (period_stays P s t n none h) (present-set P s t none is h)
    of_part _ = refl

    at : (o : Option Object) → for_some o (λ z. captured_at u n (present P u) z.part) ≡ for_some o (λ z. captured_at s n t z.part)
    at None = refl
    at (Some o) = of_part o.part

pub schedule-looks : (P : Plan) (s : State) (t : Moment) (n : LogicalName) → clock_object P ≡ None → HasCells P s → IsMoment t →
    effects_of P (next P s (ClockAt t)) (ScheduleAt n) ≡ for_some (object_at P n) (λ o. scheduled_at P s n t o.part)
schedule-looks P s t n none is h = at (object_at P n)
  where
    u : State
    u = next P s (ClockAt t)

    of_part : (part : Part) → scheduled_at P u n (present P u) part ≡ scheduled_at P s n t part
    of_part (SingleActionSchedule script type times) =
        ap₂ (λ b r. cond b (effects_of_script P r) [])
        (ap₂ (λ v m. is_schedule_due (elements v) m) (times_stay P s t n none h) (present-set P s t none is h))
        (ap (chosen script_ref_value script) (script_stays P s t n none h))
    of_part _ = refl

    at : (o : Option Object) → for_some o (λ z. scheduled_at P u n (present P u) z.part) ≡ for_some o (λ z. scheduled_at P s n t z.part)
    at None = refl
    at (Some o) = of_part o.part
