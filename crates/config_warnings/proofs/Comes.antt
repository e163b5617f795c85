-- A whole date of the years from 2000 on names a moment where it isn't told.
use Rattle.std.specs.Prelude.{◌≡◌, ◌≤◌, ◌<◌, ℕ, ℤ, pos, ◌+◌, ◌==◌, nat_le, Bool, true, false, not, ◌&&◌, ◌||◌, cond, get_or, if◌then◌else◌, length}
use Rattle.std.proofs.Common.{refl, sym, ap, ◌∙◌, arith, ⊎_elim}
use Rattle.std.proofs.lemmas.Bool.{and_cases, and_from, and_parts, both_ways, cases_Bool, cond-false, cond-true, eq-eqb, eqb-false, eqb-true, false_from_ne_true, le-leb, leb-true, ltb-false, not-false, not_from_false, or_cases, or_left, or_parts, or_right}
use Rattle.jiff_core.specs.Calendar.{days_from_civil, days_in_month, is_leap_year, weekday_number}
use Rattle.jiff_core.proofs.SignedLemmas.{signed_arith}
use Rattle.cosem_data.specs.Tree.{Tree}
use Rattle.meter_theory.specs.Times.{Moment, IsMoment, date_bytes, is_any, is_at_most, is_between, is_date, is_execution_time, is_time, is_wildcard, matches, matches_day, matches_field, parts_of, time_bytes, weekday, year_of}
use Rattle.config_warnings.specs.Dates.{day_in, given_date, has_other_weekday, is_any_year, is_nowhere, lacks_day, last_day, names_no_date, says_day}
use Rattle.config_warnings.specs.declared.dates.GivenDate.{GivenDate}
use Rattle.config_warnings.proofs.NeverComes.{by-last, by-number, by-second-last}

-- a month has 28 days at least
at-least-28 : (y : ℤ) (m : ℕ) → 28 ≤ days_in_month y m
at-least-28 y m = at (m == 2) (is_leap_year y) ((m == 4) || (m == 6) || (m == 9) || (m == 11))
  where
    at : (second leap short : Bool) → 28 ≤ (if second then (if leap then 29 else 28) else (if short then 30 else 31))
    at true true short = omega arith
    at true false short = omega arith
    at false leap true = omega arith
    at false leap false = omega arith

-- the number of a field of a time, 0 where it isn't specified
abbrev or-zero : ℕ → ℕ
or-zero field = cond (is_any field) 0 field

zero-matches : (field : ℕ) → matches_field field (or-zero field) ≡ true
zero-matches field =
    ⊎_elim (λ (any : is_any field ≡ true). or_left (is_any field) (field == or-zero field) any)
    (λ (given : is_any field ≡ false). or_right (is_any field) (field == or-zero field) (eq-eqb field (or-zero field) (sym (cond-false (is_any field) 0 field given))))
    (cases_Bool (is_any field))

at-most : (limit field : ℕ) → is_at_most limit field ≡ true → or-zero field ≤ limit
at-most limit field h =
    ⊎_elim (λ (any : is_any field ≡ true). let zero = cond-true (is_any field) 0 field any in omega (arith, zero))
    (λ (given : is_any field ≡ false).
    let own = cond-false (is_any field) 0 field given in
    let few = leb-true field limit (⊎_elim (λ (few : nat_le field limit ≡ true). few) (λ (any : is_any field ≡ true). absurd (both_ways (is_any field) given any)) (or_cases (nat_le field limit) (is_any field) h)) in
    omega (arith, own, few))
    (cases_Bool (is_any field))

-- a field that is specified lies between its bounds
between : (low high field : ℕ) → is_between low high field ≡ true → is_any field ≡ false → (low ≤ field) × (field ≤ high)
between low high field h given =
    let parts = and_parts (nat_le low field) (nat_le field high)
    (⊎_elim (λ (inside : (nat_le low field && nat_le field high) ≡ true). inside) (λ (any : is_any field ≡ true). absurd (both_ways (is_any field) given any))
    (or_cases (nat_le low field && nat_le field high) (is_any field) h)) in
    (leb-true low field parts.0, leb-true field high parts.1)

-- the date gives a year up to 9999, a month and a day
record IsWhole (d : GivenDate) : Type 0 where
  since : 2000 ≤ d.year
  until : d.year ≤ 9999
  month : (1 ≤ d.month) × (d.month ≤ 12)
  day : 1 ≤ d.day
  given : is_any d.day ≡ false

says : (d : GivenDate) → IsWhole d → says_day d ≡ true
says d whole =
    and_from _ _ (or_left (nat_le d.year 9999) (is_any_year d.year) (le-leb d.year 9999 whole.until))
    (and_from _ _ (and_from _ _ (le-leb 1 d.month whole.month.0) (le-leb d.month 12 whole.month.1))
    (and_from _ _ (le-leb 1 d.day whole.day) (not_from_false (is_any d.day) whole.given)))

with-year : (d : GivenDate) → IsWhole d → is_any_year d.year ≡ false
with-year d whole = false_from_ne_true (is_any_year d.year) (λ any. let year = eqb-true d.year 65535 any in let until = whole.until in omega (arith, year, until))

-- its month is as long as that of a moment of its year
length-is : (d : GivenDate) → IsWhole d → last_day d ≡ days_in_month (pos d.year) d.month
length-is d whole = ap (λ b. days_in_month (pos (cond b 2000 d.year)) d.month) (with-year d whole)

first-day : (d : GivenDate) → IsWhole d → 1 ≤ day_in d
first-day d whole =
    let long = at-least-28 (pos d.year) d.month in
    let own = length-is d whole in
    let from = whole.day in
    ⊎_elim (λ (last : (d.day == 254) ≡ true). let day = by-last d last in omega (arith, day, own, long))
    (λ (not-last : (d.day == 254) ≡ false).
    ⊎_elim (λ (second : (d.day == 253) ≡ true). let day = by-second-last d second in omega (arith, day, own, long))
    (λ (other : (d.day == 253) ≡ false). let day = by-number d (eqb-false d.day 254 not-last) (eqb-false d.day 253 other) in omega (arith, day, from))
    (cases_Bool (d.day == 253)))
    (cases_Bool (d.day == 254))

-- the moment of the date at a time of day
abbrev moment-at : GivenDate → (hour minute second : ℕ) → Moment
moment-at d hour minute second = record { year = d.year; month = d.month; day = day_in d; hour = hour; minute = minute; second = second }

day-matches : (d : GivenDate) → IsWhole d → (hour minute second : ℕ) → matches_day d.day (moment-at d hour minute second) ≡ true
day-matches d whole hour minute second =
    let long = at-least-28 (pos d.year) d.month in
    let own = length-is d whole in
    let at-end = days_in_month (pos d.year) d.month in
    ⊎_elim (λ (last : (d.day == 254) ≡ true).
    let day = by-last d last ∙ own in
    or_right (matches_field d.day (day_in d)) _ (or_left ((d.day == 254) && (day_in d == at-end)) _ (and_from _ _ last (eq-eqb (day_in d) at-end day))))
    (λ (not-last : (d.day == 254) ≡ false).
    ⊎_elim (λ (penult : (d.day == 253) ≡ true).
    let day = by-second-last d penult in
    let at : day_in d + 1 ≡ at-end = omega (arith, day, own, long) in
    or_right (matches_field d.day (day_in d)) _ (or_right ((d.day == 254) && (day_in d == at-end)) _ (and_from _ _ penult (eq-eqb (day_in d + 1) at-end at))))
    (λ (other : (d.day == 253) ≡ false).
    let day = by-number d (eqb-false d.day 254 not-last) (eqb-false d.day 253 other) in
    or_left (matches_field d.day (day_in d)) _ (or_right (is_any d.day) (d.day == day_in d) (eq-eqb d.day (day_in d) (sym day))))
    (cases_Bool (d.day == 253)))
    (cases_Bool (d.day == 254))

weekday-matches : (d : GivenDate) → IsWhole d → has_other_weekday d ≡ false → (hour minute second : ℕ) → matches_field d.weekday (weekday (moment-at d hour minute second)) ≡ true
weekday-matches d whole same hour minute second =
    let its = weekday_number (days_from_civil (pos d.year) d.month (day_in d)) + 1 in
    let rest : (not (is_any d.weekday) && not (d.weekday == its)) ≡ false =
    false_from_ne_true _ (λ h. both_ways (has_other_weekday d) same (and_from (not (is_any_year d.year)) _ (not_from_false (is_any_year d.year) (with-year d whole)) h)) in
    ⊎_elim (λ (any : not (is_any d.weekday) ≡ false). or_left (is_any d.weekday) (d.weekday == its) (not-false (is_any d.weekday) any))
    (λ (on : not (d.weekday == its) ≡ false). or_right (is_any d.weekday) (d.weekday == its) (not-false (d.weekday == its) on))
    (and_cases (not (is_any d.weekday)) (not (d.weekday == its)) rest)

is-moment : (d : GivenDate) → IsWhole d → lacks_day d ≡ false → (hour minute second : ℕ) → hour < 24 → minute < 60 → second < 60 → IsMoment (moment-at d hour minute second)
is-moment d whole has hour minute second h m s =
    let own = length-is d whole in
    let within = ltb-false (last_day d) (day_in d) has in
    let last = whole.until in
    record {
      since = whole.since;
      until = whole.until;
      civil = (
        (omega (arith, signed_arith), omega (arith, signed_arith, last)),
        whole.month,
        (first-day d whole, omega (arith, own, within)),
      );
      hour = h;
      minute = m;
      second = s;
    }

-- what an execution time says, where its date is no wildcard and of a year from 2000 on
whole-date : (time : Tree) → is_execution_time time ≡ true → is_wildcard time ≡ false → 2000 ≤ year_of (date_bytes time) → IsWhole (given_date (date_bytes time))
whole-date time is whole since =
    let d = given_date (date_bytes time) in
    let date = and_parts (length (date_bytes time) == 5) _ (and_parts (is_time (time_bytes time)) (is_date (date_bytes time)) (and_parts (length (parts_of time) == 2) _ is).1).1 in
    let years = and_parts (nat_le d.year 9999 || is_any_year d.year) _ date.1 in
    let months = and_parts (is_between 1 12 d.month) _ years.1 in
    let days = and_parts (is_between 1 31 d.day || ((d.day == 253) || (d.day == 254))) (is_between 1 7 d.weekday) months.1 in
    let given = or_parts (is_any_year d.year) (is_any d.month || is_any d.day) whole in
    let fields = or_parts (is_any d.month) (is_any d.day) given.1 in
    record {
      since = since;
      until = leb-true d.year 9999 (⊎_elim (λ (few : nat_le d.year 9999 ≡ true). few) (λ (any : is_any_year d.year ≡ true). absurd (both_ways (is_any_year d.year) given.0 any)) (or_cases (nat_le d.year 9999) (is_any_year d.year) years.0));
      month = between 1 12 d.month months.0 fields.0;
      day = ⊎_elim (λ (plain : is_between 1 31 d.day ≡ true). (between 1 31 d.day plain fields.1).0)
          (λ (end : ((d.day == 253) || (d.day == 254)) ≡ true).
          ⊎_elim (λ (second : (d.day == 253) ≡ true). let day = eqb-true d.day 253 second in omega (arith, day))
          (λ (last : (d.day == 254) ≡ true). let day = eqb-true d.day 254 last in omega (arith, day))
          (or_cases (d.day == 253) (d.day == 254) end))
          (or_cases (is_between 1 31 d.day) ((d.day == 253) || (d.day == 254)) days.0);
      given = fields.1;
    }

-- it names a moment, unless it is told
pub untold-comes : (time : Tree) → is_execution_time time ≡ true → is_wildcard time ≡ false → 2000 ≤ year_of (date_bytes time) → names_no_date time ≡ false →
    (t : Moment) × IsMoment t × (matches time t ≡ true)
untold-comes time is plain since untold =
    let date = date_bytes time in
    let of-day = time_bytes time in
    let d = given_date date in
    let whole = whole-date time is plain since in
    let both = and_parts (is_time of-day) (is_date date) (and_parts (length (parts_of time) == 2) _ is).1 in
    let bytes = and_parts (length date == 5) _ both.1 in
    let somewhere : is_nowhere d ≡ false = false_from_ne_true (is_nowhere d) (λ h. both_ways (names_no_date time) untold (and_from (length date == 5) (is_nowhere d) bytes.0 h)) in
    let neither = or_parts (lacks_day d) (has_other_weekday d) (false_from_ne_true (lacks_day d || has_other_weekday d) (λ h. both_ways (is_nowhere d) somewhere (and_from (says_day d) _ (says d whole) h))) in
    let hours = and_parts (is_at_most 23 (get_or of-day 0 0)) _ (and_parts (length of-day == 4) _ both.0).1 in
    let minutes = and_parts (is_at_most 59 (get_or of-day 1 0)) _ hours.1 in
    let seconds = and_parts (is_at_most 59 (get_or of-day 2 0)) (is_at_most 0 (get_or of-day 3 0)) minutes.1 in
    let h = or-zero (get_or of-day 0 0) in
    let m = or-zero (get_or of-day 1 0) in
    let s = or-zero (get_or of-day 2 0) in
    let hour = at-most 23 (get_or of-day 0 0) hours.0 in
    let minute = at-most 59 (get_or of-day 1 0) minutes.0 in
    let second = at-most 59 (get_or of-day 2 0) seconds.0 in
    let none : or-zero (get_or of-day 3 0) ≡ 0 = (let few = at-most 0 (get_or of-day 3 0) seconds.1 in omega (arith, few)) in
    let hundredths : matches_field (get_or of-day 3 0) 0 ≡ true = ap (λ n. matches_field (get_or of-day 3 0) n) (sym none) ∙ zero-matches (get_or of-day 3 0) in (
      moment-at d h m s,
      is-moment d whole neither.0 h m s (omega (arith, hour)) (omega (arith, minute)) (omega (arith, second)),
      and_from _ _
          (and_from _ _ (zero-matches (get_or of-day 0 0)) (and_from _ _ (zero-matches (get_or of-day 1 0)) (and_from _ _ (zero-matches (get_or of-day 2 0)) hundredths)))
          (and_from _ _ (or_right (is_any_year d.year) (d.year == d.year) (eq-eqb d.year d.year refl))
          (and_from _ _ (or_right (is_any d.month) (d.month == d.month) (eq-eqb d.month d.month refl))
          (and_from _ _ (day-matches d whole h m s) (weekday-matches d whole neither.1 h m s)))),
    )
