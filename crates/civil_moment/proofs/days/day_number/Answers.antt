use Rattle.std.proofs.Common.{◌≡◌, ◌<◌, ◌⊎◌, ℕ, ℤ, pos, ◌≤ℤ◌, ◌<ℤ◌, sym, arith, ⊎_elim, subst}
use Rattle.jiff.specs.Words.{epoch_day, IsYmd}
use Rattle.jiff.proofs.SpanFacts.{signed_arith}
use Rattle.jiff.proofs.Family.{epoch_day-lt, epoch_day_same}
use Rattle.jiff_core.proofs.DateLemmas.{cases_date, IsEarlier}
use Rattle.jiff_core.specs.Calendar.{days_from_civil}
use Rattle.jiff_core.specs.declared.civil.date.Date.{Date}
use Rattle.civil_moment.proofs.days.day_number.Goals as goal

not_earlier : (d first : Date) → pos 2000 ≤ℤ d.year → IsYmd (pos 2000) (pos 1) (pos 1) first → IsEarlier d first → ⊥
not_earlier d first since ymd =
    let month : first.month ≡ 1 = omega (arith, signed_arith, ymd.1) in
    let day : first.day ≡ 1 = omega (arith, signed_arith, ymd.2) in
    ⊎_elim (λ (year : d.year <ℤ first.year). omega (arith, signed_arith, ymd.0))
    (λ (same : (d.year ≡ first.year) × ((d.month < first.month) ⊎ ((d.month ≡ first.month) × (d.day < first.day)))).
    ⊎_elim (λ (lt : d.month < first.month). omega (arith, d.month_in.0)) (λ (lt : (d.month ≡ first.month) × (d.day < first.day)). omega (arith, d.day_in.0, lt.1)) same.1)

-- no day of a later year comes before the first day of 2000
not_before : (d first : Date) → pos 2000 ≤ℤ d.year → IsYmd (pos 2000) (pos 1) (pos 1) first → epoch_day first ≤ℤ epoch_day d
not_before d first since ymd =
    ⊎_elim (λ (e : IsEarlier d first). absurd (not_earlier d first since ymd e))
    (⊎_elim (λ (lt : IsEarlier first d). omega (arith, signed_arith, epoch_day-lt first d lt))
    (λ (s : (d.year ≡ first.year) × (d.month ≡ first.month) × (d.day ≡ first.day)). omega (arith, signed_arith, epoch_day_same d first s.0 s.1 s.2)))
    (cases_date d first)

-- a date's day number is that of its parts
days_of : (d : Date) (year : ℤ) (month day : ℕ) → IsYmd year (pos month) (pos day) d → epoch_day d ≡ days_from_civil year month day
days_of d year month day ymd =
    let m : d.month ≡ month = omega (arith, signed_arith, ymd.1) in
    let n : d.day ≡ day = omega (arith, signed_arith, ymd.2) in
    let y : d.year ≡ year = ymd.0 in
    cc

pub overflow_sub-result : goal.overflow_sub-result
overflow_sub-result c =
    let first = c.to_plain-first.result in
    let date = c.to_plain-date.result in
    let ymd : IsYmd (pos 2000) (pos 1) (pos 1) first = subst (IsYmd (pos 2000) (pos 1) (pos 1)) (sym c.to_plain-first.ensures) c.date_of.ensures in
    let year : date.year ≡ pos c.args.year = rw c.to_plain-date.ensures c.date_of-2.ensures.0 in
    let since : pos 2000 ≤ℤ date.year = omega (arith, signed_arith, year) in
    omega (arith, signed_arith, not_before date first since ymd)

pub returns-clause-value : goal.returns-clause-value
returns-clause-value c =
    let first : epoch_day c.date_of.result ≡ days_from_civil (pos 2000) 1 1 = days_of c.date_of.result (pos 2000) 1 1 c.date_of.ensures in
    let date : epoch_day c.date_of-2.result ≡ days_from_civil (pos c.args.year) c.args.month c.args.day = days_of c.date_of-2.result (pos c.args.year) c.args.month c.args.day c.date_of-2.ensures in
    let a : epoch_day c.to_plain-first.result ≡ days_from_civil (pos 2000) 1 1 = rw c.to_plain-first.ensures first in
    let b : epoch_day c.to_plain-date.result ≡ days_from_civil (pos c.args.year) c.args.month c.args.day = rw c.to_plain-date.ensures date in
    let fits = overflow_sub-result c in
    omega (arith, signed_arith, fits)
