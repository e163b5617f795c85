-- A clock that is put back to where it stood.
use Rattle.std.proofs.Common.{◌≡◌, Bool, true, false, ap, sym, ◌∙◌, refl}
use Rattle.std.specs.Prelude.{Option, Some, None}
use Rattle.meter_theory.specs.Plan.{Plan, Object, clock, clock_object, inner_clock, clock_time}
use Rattle.meter_theory.specs.State.{State, put, value}
use Rattle.meter_theory.specs.States.{IsState}
use Rattle.meter_theory.specs.Steps.{clock_set, effects, present, ticked, write}
use Rattle.meter_theory.specs.Times.{Moment, IsMoment, ShowsMoment, clock_moment, clock_value, is_moment, next_second}
use Rattle.meter_theory.proofs.Clock.{clock_moment-value, kept-value, true-moment}
use Rattle.meter_theory.proofs.State.{put-itself, put-twice}

-- what shows a moment is that moment's time
shown : (v : _) → ShowsMoment v → clock_value (clock_moment v) ≡ v
shown v (t, is, e) = ap (λ w. clock_value (clock_moment w)) e ∙ (ap clock_value (clock_moment-value t) ∙ sym e)

-- where the clock stands is put back, whatever it was put to
stood : (P : Plan) (s : State) → IsState P s → put s (clock P) (clock_value (present P s)) ≡ s
stood P s is = ap (put s (clock P)) (shown (value s (clock P)) is.clock) ∙ put-itself s (clock P)

-- a write of the clock is a put of its time
wrote : (P : Plan) (s : State) (t : Moment) → write s (clock P) (clock_value t) ≡ put s (clock P) (clock_value t)
wrote P s t = at (clock_object P) refl
  where
    at : (o : Option Object) → clock_object P ≡ o → write s (clock P) (clock_value t) ≡ put s (clock P) (clock_value t)
    at None is = rw is (ap (put s inner_clock) (kept-value inner_clock t))
    at (Some o) is = rw is (ap (put s (clock_time o.name)) (kept-value (clock_time o.name) t))

pub tick_back : (P : Plan) (s t : State) (m : Moment) → IsState P s → m ≡ present P s → t ≡ effects P s (ticked P s) → put t (clock P) (clock_value m) ≡ s
tick_back P s t m is m-is t-is =
    let next = clock_value (next_second (present P s)) in
    ap (λ u. put u (clock P) (clock_value m)) (t-is ∙ wrote P s (next_second (present P s)))
    ∙ (put-twice s (clock P) next (clock_value m)
    ∙ (ap (λ m. put s (clock P) (clock_value m)) m-is ∙ stood P s is))

-- the clock that is set, that of the plan or none
pub set_back : (P : Plan) (s t : State) (told m : Moment) → IsState P s → m ≡ present P s → t ≡ effects P s (clock_set (clock_object P) told) → put t (clock P) (clock_value m) ≡ s
set_back P s t told m is m-is t-is = at (clock_object P) refl (is_moment told) refl
  where
    same : t ≡ s → put t (clock P) (clock_value m) ≡ s
    same e = ap (λ u. put u (clock P) (clock_value m)) e ∙ (ap (λ m. put s (clock P) (clock_value m)) m-is ∙ stood P s is)

    at : (o : Option Object) → clock_object P ≡ o → (b : Bool) → is_moment told ≡ b → put t (clock P) (clock_value m) ≡ s
    at (Some o) o-is b b-is = same (rw o-is at t-is)
    at None o-is false b-is = same (rw b-is at (rw o-is at t-is))
    at None o-is true b-is =
        let put-is : t ≡ put s inner_clock (clock_value told) = rw b-is at (rw o-is at t-is) ∙ ap (put s inner_clock) (kept-value inner_clock told) in
        ap (λ u. put u (clock P) (clock_value m)) (put-is ∙ ap (λ x. put s x (clock_value told)) (sym (clock-is o-is)))
        ∙ (put-twice s (clock P) (clock_value told) (clock_value m)
        ∙ (ap (λ m. put s (clock P) (clock_value m)) m-is ∙ stood P s is))
      where
        clock-is : clock_object P ≡ None → clock P ≡ inner_clock
        clock-is e = rw e refl

-- a moment that the inner clock is set to stands in it
pub set_put : (P : Plan) (s : State) (t : Moment) → IsMoment t → clock_object P ≡ None → effects P s (clock_set (clock_object P) t) ≡ put s (clock P) (clock_value t)
set_put P s t is none = rw none (rw (true-moment t is) (ap (put s inner_clock) (kept-value inner_clock t)))

-- a clock of the plan is the object that it is told to be
pub clock_named : (P : Plan) (s : State) (o : Object) (t : Moment) → clock_object P ≡ Some o → put s (clock_time o.name) (clock_value t) ≡ put s (clock P) (clock_value t)
clock_named P s o t is = rw is refl
