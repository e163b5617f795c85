-- Seconds since 2000 by what a clock shows.
use Rattle.std.proofs.Common.{rules, ◌<◌, ◌<ℤ◌, ◌⊎◌, ⊎_elim, ◌≡◌, ℕ, ◌≤◌, ℤ, pos, negsuc, ◌-ℤ◌, ◌≤ℤ◌, unsigned_abs, Option, Some, None, IfSome, arith}
use Rattle.jiff_core.specs.declared.civil.datetime.DateTime.{DateTime}
use Rattle.jiff_core.specs.declared.civil.date.Date.{Date}
use Rattle.jiff_core.specs.Calendar.{days_from_civil}
use Rattle.jiff_core.specs.Date.{epoch_day}
use Rattle.jiff_core.specs.DateTime.{civil_seconds}
use Rattle.jiff_core.proofs.DateLemmas.{cases_date, IsEarlier, epoch_day-lt}
use Rattle.jiff_core.proofs.SignedLemmas.{signed_arith}
use Rattle.jiff_core.proofs.StandardFacts.{known_days}
use Rattle.meter_theory.specs.Times.{Moment, days_since_2000}
use Rattle.line_sources.specs.Texts.{IsMomentAt, IsShownBy}

days_of : (clock : DateTime) (m : Moment) → IsShownBy clock m → days_from_civil (pos m.year) m.month m.day ≡ epoch_day clock.date
days_of clock m by =
    let year = by.year in
    let month = by.month in
    let day = by.day in
    cc

not_negative : (z : ℤ) → pos 0 ≤ℤ z → z ≡ pos (unsigned_abs z)
not_negative (pos n) h = λ i. pos n
not_negative (negsuc n) h = omega (arith, signed_arith, h)

counted : (clock : DateTime) (m : Moment) (second : ℕ) → civil_seconds clock ≡ pos second → 946_684_800 ≤ second → IsShownBy clock m → IsMomentAt second m
unfolding civil_seconds
counted clock m second e since by =
    let days = days_of clock m by in
    let first = known_days.2 in
    let apart = days_from_civil (pos m.year) m.month m.day -ℤ days_from_civil (pos 2000) 1 1 in
    let ahead : pos 0 ≤ℤ apart = omega (arith, signed_arith, e, since, days, first) in
    let since_2000 : apart ≡ pos (days_since_2000 m) = not_negative apart ahead in
    record { is = by.is; counted = omega (arith, signed_arith, e, since, days, first, since_2000, by.hour, by.minute, by.second) }

pub shown_at : (clock : DateTime) (second : ℕ) (shown : Option Moment) → civil_seconds clock ≡ pos second → 946_684_800 ≤ second → IfSome shown (IsShownBy clock)
    → IfSome shown (IsMomentAt second)
shown_at clock second None e since by = by
shown_at clock second (Some m) e since by = counted clock m second e since by

-- the first day of 2000
first_day : Date
first_day = record { year = pos 2000; month = 1; day = 1; year_in = search rules; month_in = search rules; day_in = search rules }

-- no second from 2000 on is in a year before
pub year_since : (clock : DateTime) (second : ℕ) → civil_seconds clock ≡ pos second → 946_684_800 ≤ second → pos 2000 ≤ℤ clock.date.year
unfolding civil_seconds first_day
year_since clock second e since =
    let first = known_days.2 in
    ⊎_elim (λ (earlier : IsEarlier clock.date first_day). omega (arith, signed_arith, e, since, first, epoch_day-lt clock.date first_day earlier))
    (⊎_elim
    (λ (later : IsEarlier first_day clock.date). ⊎_elim (λ (year : pos 2000 <ℤ clock.date.year). omega (arith, signed_arith, year))
    (λ (same : (pos 2000 ≡ clock.date.year) × ((1 < clock.date.month) ⊎ ((1 ≡ clock.date.month) × (1 < clock.date.day)))). omega (arith, signed_arith, same.0)) later)
    (λ (same : (clock.date.year ≡ pos 2000) × (clock.date.month ≡ 1) × (clock.date.day ≡ 1)). omega (arith, signed_arith, same.0)))
    (cases_date clock.date first_day)
