-- A tick adds a second.
use Rattle.std.proofs.Common.{◌≡◌, ◌≢◌, ◌≤◌, ◌<◌, ◌*◌, ◌+◌, ◌⊎◌, ℕ, Bool, true, false, cond, refl, ap, ◌∙◌, arith, inl, inr, nat_lt, pos}
use Rattle.std.proofs.lemmas.Bool.{ltb-false}
use Rattle.jiff_core.specs.Calendar.{days_in_month, day_count, days_from_civil}
use Rattle.std.specs.Prelude.{◌-ℤ◌}
use Rattle.jiff_core.proofs.SignedLemmas.{signed_arith, one_part}
use Rattle.jiff_core.proofs.CalendarLemmas.{days_from_civil-day_count, day_count-day_of_year, day_count-later_year, day_count-next_year, day_count-next_month, day_count-day, day_count-last_of_year}
use Rattle.meter_theory.specs.Times.{Moment, IsMoment, last_moment, last_day, next_day, next_second, days_since_2000, seconds_since_2000}
use Rattle.meter_theory.proofs.Clock.{next_day-is_moment}

-- the number of the moment's day
abbrev day_of : Moment → ℕ
day_of t = day_count (pos t.year) t.month t.day

not_before : (t : Moment) → IsMoment t → day_count (pos 2000) 1 1 ≤ day_of t
not_before t h =
    let place = day_count-day_of_year (pos t.year) t.month t.day h.civil.2.0 in
    let day = h.civil.2.0 in
    elim (same_or_later t.year h.since) [
      | inl e ↦ let first : day_count (pos t.year) 1 1 ≡ day_count (pos 2000) 1 1 = ap (λ y. day_count (pos y) 1 1) e in omega (arith, place, first, day)
      | inr l ↦ let later = day_count-later_year (pos 2000) (pos t.year) (omega (arith, signed_arith)) (omega (arith, signed_arith, l)) in omega (arith, place, later, day)
    ]
  where
    same_or_later : (y : ℕ) → 2000 ≤ y → (y ≡ 2000) ⊎ (2000 < y)
    same_or_later y since = grind arith

days_since : (t : Moment) → IsMoment t → days_since_2000 t + day_count (pos 2000) 1 1 ≡ day_of t
days_since t h =
    let here = days_from_civil-day_count (pos t.year) t.month t.day in
    let first = days_from_civil-day_count (pos 2000) 1 1 in
    let later = not_before t h in
    let part = one_part (days_from_civil (pos t.year) t.month t.day -ℤ days_from_civil (pos 2000) 1 1) in
    omega (arith, signed_arith, here, first, later, part)

-- the start of the day behind
record DayAfter (t u : Moment) : Type 0 where
  day : day_of u ≡ day_of t + 1
  hour : u.hour ≡ 0
  minute : u.minute ≡ 0
  second : u.second ≡ 0

abbrev IsLastDay : Moment → Type 0
IsLastDay t = (t.year ≡ 9999) × (t.month ≡ 12) × (t.day ≡ 31)

day_after : (t : Moment) → IsMoment t → (IsLastDay t → ⊥) → DayAfter t (next_day t)
day_after t h other = in_month (nat_lt t.day (last_day t)) refl
  where
    in_century : (b : Bool) → nat_lt t.year 9999 ≡ b → t.month ≡ 12 → t.day ≡ last_day t → DayAfter t (cond b (record { year = t.year + 1; month = 1; day = 1; hour = 0; minute = 0; second = 0 }) t)
    in_century true e december last =
        let day : t.day ≡ 31 = last ∙ ap (days_in_month (pos t.year)) december in
        let next = day_count-next_year (pos t.year) (pos (t.year + 1)) (omega (arith, signed_arith)) (omega (arith, signed_arith)) in
        let end = day_count-last_of_year (pos t.year) in
        let here : day_of t ≡ day_count (pos t.year) 12 31 = ap (λ m. day_count (pos t.year) m t.day) december ∙ ap (day_count (pos t.year) 12) day in
        record { day = omega (arith, next, end, here); hour = refl; minute = refl; second = refl }
    in_century false e december last =
        let day : t.day ≡ 31 = last ∙ ap (days_in_month (pos t.year)) december in
        let until = h.until in
        let year : 9999 ≤ t.year = ltb-false t.year 9999 e in
        absurd (other (omega (arith, until, year), december, day))

    in_year : (b : Bool) → nat_lt t.month 12 ≡ b → t.day ≡ last_day t →
        DayAfter t (cond b (record { year = t.year; month = t.month + 1; day = 1; hour = 0; minute = 0; second = 0 })
        (cond (nat_lt t.year 9999) (record { year = t.year + 1; month = 1; day = 1; hour = 0; minute = 0; second = 0 }) t))
    in_year true e last =
        let next = day_count-next_month (pos t.year) t.month h.civil.1.0 in
        let first = day_count-day (pos t.year) t.month t.day 1 h.civil.2.0 (omega arith) in
        record { day = omega (arith, next, first, last); hour = refl; minute = refl; second = refl }
    in_year false e last =
        let to = h.civil.1.1 in
        let from : 12 ≤ t.month = ltb-false t.month 12 e in
        in_century (nat_lt t.year 9999) refl (omega (arith, to, from)) last

    in_month : (b : Bool) → nat_lt t.day (last_day t) ≡ b →
        DayAfter t (cond b (record { year = t.year; month = t.month; day = t.day + 1; hour = 0; minute = 0; second = 0 })
        (cond (nat_lt t.month 12) (record { year = t.year; month = t.month + 1; day = 1; hour = 0; minute = 0; second = 0 })
        (cond (nat_lt t.year 9999) (record { year = t.year + 1; month = 1; day = 1; hour = 0; minute = 0; second = 0 }) t)))
    in_month true e =
        let from = h.civil.2.0 in
        let next = day_count-day (pos t.year) t.month (t.day + 1) t.day (omega arith) from in
        record { day = omega (arith, next); hour = refl; minute = refl; second = refl }
    in_month false e =
        let to = h.civil.2.1 in
        let from : last_day t ≤ t.day = ltb-false t.day (last_day t) e in
        in_year (nat_lt t.month 12) refl (same_day t.day (last_day t) to from)
      where
        same_day : (a b : ℕ) → a ≤ b → b ≤ a → a ≡ b
        same_day a b p q = omega arith

day_passes : (t u : Moment) → IsMoment t → IsMoment u → DayAfter t u → seconds_since_2000 u ≡ (days_since_2000 t + 1) * 86400
day_passes t u h k after =
    let before = days_since t h in
    let behind = days_since u k in
    let day = after.day in
    let days : days_since_2000 u ≡ days_since_2000 t + 1 = omega (arith, before, behind, day) in
    let time : u.hour * 3600 + u.minute * 60 + u.second ≡ 0 = let a = after.hour in let b = after.minute in let c = after.second in omega (arith, a, b, c) in
    with_days (days_since_2000 u) (days_since_2000 t) (u.hour * 3600 + u.minute * 60 + u.second) days time
  where
    with_days : (m n time : ℕ) → m ≡ n + 1 → time ≡ 0 → m * 86400 + time ≡ (n + 1) * 86400
    with_days m n time p q = omega arith

pub one_second : (t : Moment) → IsMoment t → t ≢ last_moment → seconds_since_2000 (next_second t) ≡ seconds_since_2000 t + 1
one_second t h other = in_minute (nat_lt t.second 59) refl
  where
    added : (days hours minutes seconds more : ℕ) → hours * 3600 + minutes * 60 + seconds + 1 ≡ more → days * 86400 + more ≡ days * 86400 + (hours * 3600 + minutes * 60 + seconds) + 1
    added days hours minutes seconds more e = omega arith

    whole : (days hours minutes seconds : ℕ) → hours ≡ 23 → minutes ≡ 59 → seconds ≡ 59 → (days + 1) * 86400 ≡ days * 86400 + (hours * 3600 + minutes * 60 + seconds) + 1
    whole days hours minutes seconds p q r = omega arith

    in_day : t.hour ≡ 23 → t.minute ≡ 59 → t.second ≡ 59 → seconds_since_2000 (next_day t) ≡ seconds_since_2000 t + 1
    in_day p q r =
        day_passes t (next_day t) h (next_day-is_moment t h) (day_after t h (λ last. other (λ i. record { year = last.0 i; month = last.1 i; day = last.2 i; hour = p i; minute = q i; second = r i })))
        ∙ whole (days_since_2000 t) t.hour t.minute t.second p q r

    in_hour : (b : Bool) → nat_lt t.hour 23 ≡ b → t.minute ≡ 59 → t.second ≡ 59 →
        seconds_since_2000 (cond b (record { year = t.year; month = t.month; day = t.day; hour = t.hour + 1; minute = 0; second = 0 }) (next_day t)) ≡ seconds_since_2000 t + 1
    in_hour true e q r = added (days_since_2000 t) t.hour t.minute t.second ((t.hour + 1) * 3600 + 0 * 60 + 0) (omega (arith, q, r))
    in_hour false e q r =
        let to = h.hour in
        let from : 23 ≤ t.hour = ltb-false t.hour 23 e in
        in_day (omega (arith, to, from)) q r

    of_minute : (b : Bool) → nat_lt t.minute 59 ≡ b → t.second ≡ 59 →
        seconds_since_2000 (cond b (record { year = t.year; month = t.month; day = t.day; hour = t.hour; minute = t.minute + 1; second = 0 })
        (cond (nat_lt t.hour 23) (record { year = t.year; month = t.month; day = t.day; hour = t.hour + 1; minute = 0; second = 0 }) (next_day t))) ≡ seconds_since_2000 t + 1
    of_minute true e r = added (days_since_2000 t) t.hour t.minute t.second (t.hour * 3600 + (t.minute + 1) * 60 + 0) (omega (arith, r))
    of_minute false e r =
        let to = h.minute in
        let from : 59 ≤ t.minute = ltb-false t.minute 59 e in
        in_hour (nat_lt t.hour 23) refl (omega (arith, to, from)) r

    in_minute : (b : Bool) → nat_lt t.second 59 ≡ b →
        seconds_since_2000 (cond b (record { year = t.year; month = t.month; day = t.day; hour = t.hour; minute = t.minute; second = t.second + 1 })
        (cond (nat_lt t.minute 59) (record { year = t.year; month = t.month; day = t.day; hour = t.hour; minute = t.minute + 1; second = 0 })
        (cond (nat_lt t.hour 23) (record { year = t.year; month = t.month; day = t.day; hour = t.hour + 1; minute = 0; second = 0 }) (next_day t)))) ≡ seconds_since_2000 t + 1
    in_minute true e = added (days_since_2000 t) t.hour t.minute t.second (t.hour * 3600 + t.minute * 60 + (t.second + 1)) (omega arith)
    in_minute false e =
        let to = h.second in
        let from : 59 ≤ t.second = ltb-false t.second 59 e in
        of_minute (nat_lt t.minute 59) refl (omega (arith, to, from))
