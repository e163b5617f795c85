-- A date that no calendar has names no moment.
use Rattle.std.specs.Prelude.{◌≡◌, ◌≤◌, ℕ, ℤ, pos, ◌+◌, ◌-◌, ◌==◌, nat_le, Bool, true, false, not, ◌&&◌, ◌||◌, cond, if◌then◌else◌, length}
use Rattle.std.proofs.Common.{sym, ap, ap₂, ◌∙◌, arith, ⊎_elim}
use Rattle.std.proofs.lemmas.Bool.{and_parts, both_ways, cases_Bool, cond-false, cond-true, eq-eqb, eqb-true, false_from_ne_true, le-ltb, leb-true, ne_eqb, not-true, or_cases}
use Rattle.jiff_core.specs.Calendar.{days_from_civil, days_in_month, is_leap_year, weekday_number}
use Rattle.cosem_data.specs.Tree.{Tree}
use Rattle.meter_theory.specs.Times.{Moment, IsMoment, date_bytes, is_any, matches, matches_date, matches_day, matches_field, matches_time, matches_year, time_bytes, weekday}
use Rattle.meter_theory.specs.Times as times
use Rattle.config_warnings.specs.Dates.{day_in, given_date, has_other_weekday, is_any_year, is_nowhere, lacks_day, last_day, names_no_date, says_day}
use Rattle.config_warnings.specs.declared.dates.GivenDate.{GivenDate}

-- a month is as long as in a leap year at most, and has 31 days at most
longest : (y : ℤ) (m : ℕ) → days_in_month y m ≤ days_in_month (pos 2000) m
longest y m = at (m == 2) (is_leap_year y) _
  where
    at : (second leap : Bool) (other : ℕ) → (if second then (if leap then 29 else 28) else other) ≤ (if second then 29 else other)
    at true true other = omega arith
    at true false other = omega arith
    at false leap other = omega arith

at-most-31 : (y : ℤ) (m : ℕ) → days_in_month y m ≤ 31
at-most-31 y m = at (m == 2) (is_leap_year y) ((m == 4) || (m == 6) || (m == 9) || (m == 11))
  where
    at : (second leap short : Bool) → (if second then (if leap then 29 else 28) else (if short then 30 else 31)) ≤ 31
    at true true short = omega arith
    at true false short = omega arith
    at false leap true = omega arith
    at false leap false = omega arith

-- a field that is specified is the number that it matches
same-field : (field number : ℕ) → matches_field field number ≡ true → (field ≡ 255 → ⊥) → field ≡ number
same-field field number h given =
    ⊎_elim (λ (any : is_any field ≡ true). absurd (given (eqb-true field 255 any))) (λ (same : (field == number) ≡ true). eqb-true field number same)
    (or_cases (is_any field) (field == number) h)

-- the number of the day, by each of its three forms
pub by-number : (d : GivenDate) → (d.day ≡ 254 → ⊥) → (d.day ≡ 253 → ⊥) → day_in d ≡ d.day
by-number d last second =
    cond-false (d.day == 254) (last_day d) (cond (d.day == 253) (last_day d - 1) d.day) (ne_eqb d.day 254 last)
    ∙ cond-false (d.day == 253) (last_day d - 1) d.day (ne_eqb d.day 253 second)

pub by-last : (d : GivenDate) → (d.day == 254) ≡ true → day_in d ≡ last_day d
by-last d e = cond-true (d.day == 254) (last_day d) (cond (d.day == 253) (last_day d - 1) d.day) e

pub by-second-last : (d : GivenDate) → (d.day == 253) ≡ true → day_in d ≡ last_day d - 1
by-second-last d e =
    let other : d.day ≡ 254 → ⊥ = λ last. let day = eqb-true d.day 253 e in omega (arith, day, last) in
    cond-false (d.day == 254) (last_day d) (cond (d.day == 253) (last_day d - 1) d.day) (ne_eqb d.day 254 other)
    ∙ cond-true (d.day == 253) (last_day d - 1) d.day e

-- The day of a moment that the date's day matches: it is that of the date where the months are as long, and else no later than the
-- last of the date's month.
day-named : (d : GivenDate) (t : Moment) → IsMoment t → (d.day ≡ 255 → ⊥) → times.last_day t ≤ last_day d → matches_day d.day t ≡ true →
    (day_in d ≤ last_day d) × (last_day d ≡ times.last_day t → day_in d ≡ t.day)
day-named d t is given room h =
    let within = is.civil.2.1 in
    let few = at-most-31 (pos t.year) t.month in
    ⊎_elim (λ (number : matches_field d.day t.day ≡ true).
    let day = same-field d.day t.day number given in
    let plain = by-number d (λ last. omega (arith, day, last, within, few)) (λ second. omega (arith, day, second, within, few)) in
    (omega (arith, plain, day, within, room), λ same. plain ∙ day))
    (λ (named : ((d.day == 254) && (t.day == times.last_day t)) || ((d.day == 253) && (t.day + 1 == times.last_day t)) ≡ true).
    ⊎_elim (λ (last : ((d.day == 254) && (t.day == times.last_day t)) ≡ true).
    let parts = and_parts (d.day == 254) (t.day == times.last_day t) last in
    let day = by-last d parts.0 in
    let at = eqb-true t.day (times.last_day t) parts.1 in
    (omega (arith, day), λ same. omega (arith, day, at, same)))
    (λ (second : ((d.day == 253) && (t.day + 1 == times.last_day t)) ≡ true).
    let parts = and_parts (d.day == 253) (t.day + 1 == times.last_day t) second in
    let day = by-second-last d parts.0 in
    let at = eqb-true (t.day + 1) (times.last_day t) parts.1 in
    (omega (arith, day), λ same. omega (arith, day, at, same)))
    (or_cases ((d.day == 254) && (t.day == times.last_day t)) ((d.day == 253) && (t.day + 1 == times.last_day t)) named))
    (or_cases (matches_field d.day t.day) (((d.day == 254) && (t.day == times.last_day t)) || ((d.day == 253) && (t.day + 1 == times.last_day t))) h)

-- the year of the date, where it says one, is that of a moment that it matches
same-year : (d : GivenDate) (t : Moment) → (is_any_year d.year || (d.year == t.year)) ≡ true → is_any_year d.year ≡ false → d.year ≡ t.year
same-year d t h given =
    ⊎_elim (λ (any : is_any_year d.year ≡ true). absurd (both_ways (is_any_year d.year) given any)) (λ (same : (d.year == t.year) ≡ true). eqb-true d.year t.year same)
    (or_cases (is_any_year d.year) (d.year == t.year) h)

-- then their months are as long
same-length : (d : GivenDate) (t : Moment) → d.month ≡ t.month → (is_any_year d.year || (d.year == t.year)) ≡ true → is_any_year d.year ≡ false → last_day d ≡ times.last_day t
same-length d t month h given =
    ap₂ (λ b m. days_in_month (pos (cond b 2000 d.year)) m) given month
    ∙ ap (λ y. days_in_month (pos y) t.month) (same-year d t h given)

-- and else that of the date is no shorter
as-long : (d : GivenDate) (t : Moment) → d.month ≡ t.month → (is_any_year d.year || (d.year == t.year)) ≡ true → times.last_day t ≤ last_day d
as-long d t month h =
    ⊎_elim (λ (any : is_any_year d.year ≡ true).
    let own : last_day d ≡ days_in_month (pos 2000) t.month = ap₂ (λ b m. days_in_month (pos (cond b 2000 d.year)) m) any month in
    let most = longest (pos t.year) t.month in
    omega (arith, own, most))
    (λ (given : is_any_year d.year ≡ false). let own = same-length d t month h given in omega (arith, own))
    (cases_Bool (is_any_year d.year))

never-comes : (d : GivenDate) (t : Moment) → IsMoment t → is_nowhere d ≡ true →
    (is_any_year d.year || (d.year == t.year)) ≡ true → matches_field d.month t.month ≡ true → matches_day d.day t ≡ true →
    matches_field d.weekday (weekday t) ≡ true → ⊥
never-comes d t is nowhere year month day on =
    let parts = and_parts (says_day d) (lacks_day d || has_other_weekday d) nowhere in
    let says = and_parts (nat_le d.year 9999 || is_any_year d.year) _ parts.0 in
    let fields = and_parts (nat_le 1 d.month && nat_le d.month 12) (nat_le 1 d.day && not (is_any d.day)) says.1 in
    let months = and_parts (nat_le 1 d.month) (nat_le d.month 12) fields.0 in
    let days = and_parts (nat_le 1 d.day) (not (is_any d.day)) fields.1 in
    let few = leb-true d.month 12 months.1 in
    let same-month = same-field d.month t.month month (λ any. omega (arith, any, few)) in
    let given : d.day ≡ 255 → ⊥ = λ any. both_ways (is_any d.day) (not-true (is_any d.day) days.1) (eq-eqb d.day 255 any) in
    let named = day-named d t is given (as-long d t same-month year) day in
    let other : has_other_weekday d ≡ true =
    ⊎_elim (λ (lacks : lacks_day d ≡ true). absurd (both_ways (lacks_day d) (le-ltb (last_day d) (day_in d) named.0) lacks)) (λ (h : has_other_weekday d ≡ true). h)
    (or_cases (lacks_day d) (has_other_weekday d) parts.1) in
    let its = weekday_number (days_from_civil (pos d.year) d.month (day_in d)) + 1 in
    let said = and_parts (not (is_any_year d.year)) (not (is_any d.weekday) && not (d.weekday == its)) other in
    let apart = and_parts (not (is_any d.weekday)) (not (d.weekday == its)) said.1 in
    let some : is_any_year d.year ≡ false = not-true (is_any_year d.year) said.0 in
    let same-day : day_in d ≡ t.day = named.1 (same-length d t same-month year some) in
    let weekday-is : d.weekday ≡ weekday t = same-field d.weekday (weekday t) on (λ any. both_ways (is_any d.weekday) (not-true (is_any d.weekday) apart.0) (eq-eqb d.weekday 255 any)) in
    let its-is : weekday t ≡ its =
    ap (λ y. weekday_number (days_from_civil (pos y) t.month t.day) + 1) (sym (same-year d t year some))
    ∙ ap₂ (λ m n. weekday_number (days_from_civil (pos d.year) m n) + 1) (sym same-month) (sym same-day) in
    both_ways (d.weekday == its) (not-true (d.weekday == its) apart.1) (eq-eqb d.weekday its (weekday-is ∙ its-is))

-- an execution time that names a date that no calendar has names no moment
pub told-never : (time : Tree) → names_no_date time ≡ true → (t : Moment) → IsMoment t → matches time t ≡ false
told-never time none t is =
    false_from_ne_true (matches time t) (λ named.
    let date = date_bytes time in
    let d = given_date date in
    let parts = and_parts (matches_time (time_bytes time) t) (matches_date date t) named in
    let years = and_parts (matches_year date t) (matches_field d.month t.month && (matches_day d.day t && matches_field d.weekday (weekday t))) parts.1 in
    let months = and_parts (matches_field d.month t.month) (matches_day d.day t && matches_field d.weekday (weekday t)) years.1 in
    let days = and_parts (matches_day d.day t) (matches_field d.weekday (weekday t)) months.1 in
    never-comes d t is (and_parts (length date == 5) (is_nowhere d) none).1 years.0 months.0 days.0 days.1)
