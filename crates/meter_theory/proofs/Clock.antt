-- The time of a clock: its form and its moment, and what a put leaves of it.
use Rattle.std.proofs.Common.{◌≡◌, ◌==◌, ◌≤◌, ◌<◌, ◌*◌, ◌+◌, ◌/◌, ◌%◌, ℕ, Bool, true, false, cond, ◌&&◌, refl, sym, ap, subst, arith, nat_lt, ltb-true, ℤ, pos}
use Rattle.std.proofs.lemmas.Bool.{and_parts, and_from, cond-false, leb-true, le-leb, lt-ltb}
use Rattle.jiff_core.specs.Calendar.{days_in_month}
use Rattle.jiff_core.proofs.SignedLemmas.{signed_arith}
use Rattle.cosem_axdr.specs.Canonical as canonical
use Rattle.cosem_data.specs.Tree.{Tree}
use Rattle.cosem_data.specs.declared.cell.CellRef.{CellRef}
use Rattle.meter_theory.specs.Times.{Moment, IsMoment, is_moment, first_moment, last_day, next_day, next_second, clock_moment, clock_value}
use Rattle.meter_theory.specs.Value.{ClockTime, is_within_limits, valid_tag, valid_content, meets}
use Rattle.meter_theory.specs.Steps.{kept}

-- a clock's time in the kept form says its moment
pub clock_moment-value : (t : Moment) → clock_moment (clock_value t) ≡ t
clock_moment-value t =
    let year : t.year / 256 * 256 + t.year % 256 ≡ t.year = omega arith in
    λ i. record { year = year i; month = t.month; day = t.day; hour = t.hour; minute = t.minute; second = t.second }

-- what is in the kept form is kept as it is
pub kept-value : (x : CellRef) (t : Moment) → kept x (clock_value t) ≡ clock_value t
kept-value x t = at (x.class_id == 8)
  where
    at : (b : Bool) → cond b (clock_value (clock_moment (clock_value t))) (clock_value t) ≡ clock_value t
    at true = ap clock_value (clock_moment-value t)
    at false = refl

pub kept-twice : (x : CellRef) (v : Tree) → kept x (kept x v) ≡ kept x v
kept-twice x v = at (x.class_id == 8) refl
  where
    at : (b : Bool) → (x.class_id == 8) ≡ b → kept x (cond b (clock_value (clock_moment v)) v) ≡ cond b (clock_value (clock_moment v)) v
    at true h = kept-value x (clock_moment v)
    at false h = cond-false (x.class_id == 8) (clock_value (clock_moment v)) v h

-- The test of a moment

pub moment-true : (t : Moment) → is_moment t ≡ true → IsMoment t
moment-true t h =
    let since = and_parts _ _ h in
    let until = and_parts _ _ since.1 in
    let from_month = and_parts _ _ until.1 in
    let to_month = and_parts _ _ from_month.1 in
    let from_day = and_parts _ _ to_month.1 in
    let to_day = and_parts _ _ from_day.1 in
    let hour = and_parts _ _ to_day.1 in
    let minute = and_parts _ _ hour.1 in
    let last : t.year ≤ 9999 = leb-true t.year 9999 until.0 in
    record {
      since = leb-true 2000 t.year since.0;
      until = last;
      civil = (
        (omega (arith, signed_arith), omega (arith, signed_arith, last)),
        (leb-true 1 t.month from_month.0, leb-true t.month 12 to_month.0),
        (leb-true 1 t.day from_day.0, leb-true t.day (last_day t) to_day.0),
      );
      hour = ltb-true t.hour 24 hour.0;
      minute = ltb-true t.minute 60 minute.0;
      second = ltb-true t.second 60 minute.1;
    }

pub true-moment : (t : Moment) → IsMoment t → is_moment t ≡ true
true-moment t h =
    and_from _ _ (le-leb 2000 t.year h.since)
    (and_from _ _ (le-leb t.year 9999 h.until)
    (and_from _ _ (le-leb 1 t.month h.civil.1.0)
    (and_from _ _ (le-leb t.month 12 h.civil.1.1)
    (and_from _ _ (le-leb 1 t.day h.civil.2.0)
    (and_from _ _ (le-leb t.day (last_day t) h.civil.2.1)
    (and_from _ _ (lt-ltb t.hour 24 h.hour)
    (and_from _ _ (lt-ltb t.minute 60 h.minute) (lt-ltb t.second 60 h.second))))))))

pub first-is_moment : IsMoment first_moment
first-is_moment = moment-true first_moment refl

-- Moments behind a moment

either : (b : Bool) (x y : Moment) → (b ≡ true → IsMoment x) → (b ≡ false → IsMoment y) → IsMoment (cond b x y)
either true x y h k = h refl
either false x y h k = k refl

-- a month has days
some_days : (y : ℤ) (m : ℕ) → 1 ≤ days_in_month y m
some_days y m = grind arith

pub next_day-is_moment : (t : Moment) → IsMoment t → IsMoment (next_day t)
next_day-is_moment t h =
    either (nat_lt t.day (last_day t)) _ _
    (λ e. let more : t.day < last_day t = ltb-true t.day (last_day t) e in
    record { since = h.since; until = h.until; civil = (h.civil.0, h.civil.1, (omega arith, omega (arith, more))); hour = omega arith; minute = omega arith; second = omega arith })
    (λ _. either (nat_lt t.month 12) _ _
    (λ e. let more : t.month < 12 = ltb-true t.month 12 e in
    record { since = h.since; until = h.until; civil = (h.civil.0, (omega arith, omega (arith, more)), (omega arith, some_days (pos t.year) (t.month + 1))); hour = omega arith; minute = omega arith; second = omega arith })
    (λ _. either (nat_lt t.year 9999) _ _
    (λ e. let more : t.year < 9999 = ltb-true t.year 9999 e in let since = h.since in
    record { since = omega (arith, since); until = omega (arith, more); civil = ((omega (arith, signed_arith), omega (arith, signed_arith, more)), (omega arith, omega arith), (omega arith, some_days (pos (t.year + 1)) 1)); hour = omega arith; minute = omega arith; second = omega arith })
    (λ _. h)))

-- A clock that goes on stands at a moment.
pub next_second-is_moment : (t : Moment) → IsMoment t → IsMoment (next_second t)
next_second-is_moment t h =
    either (nat_lt t.second 59) _ _
    (λ e. let more : t.second < 59 = ltb-true t.second 59 e in
    record { since = h.since; until = h.until; civil = h.civil; hour = h.hour; minute = h.minute; second = omega (arith, more) })
    (λ _. either (nat_lt t.minute 59) _ _
    (λ e. let more : t.minute < 59 = ltb-true t.minute 59 e in
    record { since = h.since; until = h.until; civil = h.civil; hour = h.hour; minute = omega (arith, more); second = omega arith })
    (λ _. either (nat_lt t.hour 23) _ _
    (λ e. let more : t.hour < 23 = ltb-true t.hour 23 e in
    record { since = h.since; until = h.until; civil = h.civil; hour = omega (arith, more); minute = omega arith; second = omega arith })
    (λ _. next_day-is_moment t h)))

-- What a clock may be set to

-- it says a moment
pub clock_time-moment : (v : Tree) → meets ClockTime v ≡ true → IsMoment (clock_moment v)
clock_time-moment v h =
    let tag = and_parts (valid_tag ClockTime v) (is_within_limits v && valid_content ClockTime v) h in
    let limits = and_parts (is_within_limits v) (valid_content ClockTime v) tag.1 in
    let bytes = and_parts _ _ limits.1 in
    moment-true (clock_moment v) (and_parts _ _ bytes.1).0

-- the kept form may be put
pub value-clock_time : (t : Moment) → IsMoment t → meets ClockTime (clock_value t) ≡ true
unfolding canonical.shortest
value-clock_time t h = and_from _ _ (subst (λ u. is_moment u ≡ true) (sym (clock_moment-value t)) (true-moment t h)) refl
