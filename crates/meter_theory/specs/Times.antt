-- Moments of the civil calendar, the time of a clock, and the times at which a single action schedule and a profile are due
-- (IEC 62056-6-2, date and time formats, Clock, Single action schedule, Profile generic).
use Rattle.std.specs.Prelude.{◌≡◌, ◌≤◌, ◌<◌, ℕ, ◌+◌, ◌*◌, ◌/◌, ◌%◌, ◌==◌, nat_le, nat_lt, Bool, true, not, ◌&&◌, ◌||◌, cond, List, [], ◌∷◌, length, get_or, pos, ◌-ℤ◌, unsigned_abs}
use Rattle.std.specs.List.{list_all, list_any}
use Rattle.std.specs.Str.{bytes_eq}
use Rattle.jiff_core.specs.Calendar.{days_from_civil, days_in_month, weekday_number, IsCivilDate}
use Rattle.cosem_data.specs.Tree.{Tree, null_data, structure, octet_string, parts}
use Rattle.meter_theory.specs.declared.limits.TheConstants as limits

-- a civil date and a time of day, in whole seconds
pub record Moment : Type 0 where
  pub year : ℕ
  pub month : ℕ
  pub day : ℕ
  pub hour : ℕ
  pub minute : ℕ
  pub second : ℕ

-- a moment of the years 2000 to 9999 that the calendar has (own profile)
pub record IsMoment (t : Moment) : Type 0 where
  pub since : 2000 ≤ t.year
  pub until : t.year ≤ 9999
  pub civil : IsCivilDate (pos t.year) t.month t.day
  pub hour : t.hour < 24
  pub minute : t.minute < 60
  pub second : t.second < 60

-- the first moment, 2000-01-01T00:00:00
abbrev pub first_moment : Moment
first_moment = record { year = 2000; month = 1; day = 1; hour = 0; minute = 0; second = 0 }

-- the last moment, 9999-12-31T23:59:59
abbrev pub last_moment : Moment
last_moment = record { year = 9999; month = 12; day = 31; hour = 23; minute = 59; second = 59 }

-- the days from 2000-01-01 to the moment's day
abbrev pub days_since_2000 : Moment → ℕ
days_since_2000 t = unsigned_abs (days_from_civil (pos t.year) t.month t.day -ℤ days_from_civil (pos 2000) 1 1)

-- the seconds from 2000-01-01T00:00:00 to the moment (the epoch is own profile)
abbrev pub seconds_since_2000 : Moment → ℕ
seconds_since_2000 t = days_since_2000 t * 86400 + (t.hour * 3600 + t.minute * 60 + t.second)

-- 1 for Monday to 7 for Sunday
abbrev pub weekday : Moment → ℕ
weekday t = weekday_number (days_from_civil (pos t.year) t.month t.day) + 1

abbrev pub last_day : Moment → ℕ
last_day t = days_in_month (pos t.year) t.month

-- the test of such a moment
abbrev pub is_moment : Moment → Bool
is_moment t =
    nat_le 2000 t.year
    && (nat_le t.year 9999
    && (nat_le 1 t.month
    && (nat_le t.month 12
    && (nat_le 1 t.day
    && (nat_le t.day (last_day t)
    && (nat_lt t.hour 24
    && (nat_lt t.minute 60
    && nat_lt t.second 60)))))))

-- the start of the day behind that of the moment; the last day is followed by none, and then the moment stays
abbrev pub next_day : Moment → Moment
next_day t =
    cond (nat_lt t.day (last_day t)) (record { year = t.year; month = t.month; day = t.day + 1; hour = 0; minute = 0; second = 0 })
    (cond (nat_lt t.month 12) (record { year = t.year; month = t.month + 1; day = 1; hour = 0; minute = 0; second = 0 })
    (cond (nat_lt t.year 9999) (record { year = t.year + 1; month = 1; day = 1; hour = 0; minute = 0; second = 0 }) t))

-- the moment one second later; 9999-12-31T23:59:59 stays (own profile)
abbrev pub next_second : Moment → Moment
next_second t =
    cond (nat_lt t.second 59) (record { year = t.year; month = t.month; day = t.day; hour = t.hour; minute = t.minute; second = t.second + 1 })
    (cond (nat_lt t.minute 59) (record { year = t.year; month = t.month; day = t.day; hour = t.hour; minute = t.minute + 1; second = 0 })
    (cond (nat_lt t.hour 23) (record { year = t.year; month = t.month; day = t.day; hour = t.hour + 1; minute = 0; second = 0 })
    (next_day t)))

-- The parts of one element of execution_time: a structure of time (hour, minute, second, hundredths)
-- and date (two bytes of the year, month, day, weekday). FF, and FFFF for the year, is not specified.

abbrev pub octets_of : Tree → List ℕ
octets_of (octet_string bytes) = bytes
octets_of _ = []

-- the parts of a structure
abbrev pub parts_of : Tree → List Tree
parts_of (structure vs) = parts vs
parts_of _ = []

abbrev pub time_bytes : Tree → List ℕ
time_bytes v = octets_of (get_or (parts_of v) 0 null_data)

abbrev pub date_bytes : Tree → List ℕ
date_bytes v = octets_of (get_or (parts_of v) 1 null_data)

abbrev pub year_of : List ℕ → ℕ
year_of date = get_or date 0 0 * 256 + get_or date 1 0

abbrev pub month_of : List ℕ → ℕ
month_of date = get_or date 2 0

abbrev pub day_of : List ℕ → ℕ
day_of date = get_or date 3 0

abbrev pub weekday_of : List ℕ → ℕ
weekday_of date = get_or date 4 0

-- the field is not specified, and matches anything (own profile for the fields of a time)
abbrev pub is_any : ℕ → Bool
is_any field = field == 255

-- the field is at most this, or not specified
abbrev pub is_at_most : ℕ → ℕ → Bool
is_at_most limit field = nat_le field limit || is_any field

-- the field lies between these, or is not specified
abbrev pub is_between : ℕ → ℕ → ℕ → Bool
is_between low high field = (nat_le low field && nat_le field high) || is_any field

abbrev pub is_time : List ℕ → Bool
is_time time =
    (length time == 4)
    && (is_at_most 23 (get_or time 0 0)
    && (is_at_most 59 (get_or time 1 0)
    && (is_at_most 59 (get_or time 2 0)
    && is_at_most 0 (get_or time 3 0))))

-- day FE is the last day of the month, and FD the second last
abbrev pub is_date : List ℕ → Bool
is_date date =
    (length date == 5)
    && ((nat_le (year_of date) 9999 || (year_of date == 65535))
    && (is_between 1 12 (month_of date)
    && ((is_between 1 31 (day_of date) || ((day_of date == 253) || (day_of date == 254)))
    && is_between 1 7 (weekday_of date))))

-- a structure of a time and a date, each an octet-string of allowed fields
abbrev pub is_execution_time : Tree → Bool
is_execution_time v = (length (parts_of v) == 2) && (is_time (time_bytes v) && is_date (date_bytes v))

-- a year, month or day that isn't specified makes a date a wildcard (own profile: a weekday doesn't)
abbrev pub is_wildcard : Tree → Bool
is_wildcard v =
    (year_of (date_bytes v) == 65535) || (is_any (month_of (date_bytes v)) || is_any (day_of (date_bytes v)))

-- all equal to the first
abbrev pub are_equal_times : List Tree → Bool
are_equal_times [] = true
are_equal_times (v ∷ vs) = list_all (λ w. bytes_eq (time_bytes v) (time_bytes w)) vs

-- how many elements a type allows (own profile: a limit)
abbrev pub is_number_for : ℕ → ℕ → Bool
is_number_for type number = cond (type == 1) (number == 1) (nat_le number limits.EXECUTION_TIMES)

-- types 2 and 3 ask for one time of day
abbrev pub is_time_for : ℕ → List Tree → Bool
is_time_for type vs = cond ((type == 2) || (type == 3)) (are_equal_times vs) true

-- types 2 and 4 take no wildcards in dates
abbrev pub is_date_for : ℕ → List Tree → Bool
is_date_for type vs = cond ((type == 2) || (type == 4)) (list_all (λ v. not (is_wildcard v)) vs) true

-- The elements of an execution_time that fits a type from 1 to 5.
abbrev pub are_execution_times : ℕ → List Tree → Bool
are_execution_times type vs =
    list_all is_execution_time vs && (is_number_for type (length vs) && (is_time_for type vs && is_date_for type vs))

-- The time of a clock: an octet-string of date (five bytes), time (four), deviation (two) and clock_status (IEC 62056-6-2,
-- Clock, time).

-- the moment that the bytes of a date and a time say
abbrev pub moment_of_bytes : List ℕ → Moment
moment_of_bytes bytes = record {
  year = year_of bytes;
  month = month_of bytes;
  day = day_of bytes;
  hour = get_or bytes 5 0;
  minute = get_or bytes 6 0;
  second = get_or bytes 7 0;
}

abbrev pub clock_moment : Tree → Moment
clock_moment v = moment_of_bytes (octets_of v)

-- The bytes of a clock that stands at the moment, in the form in which they are kept: the true weekday, hundredths 0, a
-- deviation that isn't specified (8000), and status 0 (own profile).
abbrev pub clock_bytes : Moment → List ℕ
clock_bytes t =
    t.year / 256 ∷ t.year % 256 ∷ t.month ∷ t.day ∷ weekday t
    ∷ t.hour ∷ t.minute ∷ t.second ∷ 0
    ∷ 128 ∷ 0 ∷ 0 ∷ []

abbrev pub clock_value : Moment → Tree
clock_value t = octet_string (clock_bytes t)

-- What a clock may be set to: twelve bytes that say a moment, and hundredths up to 99 or not specified. The weekday, the
-- deviation and the status may be anything (own profile).
abbrev pub is_clock_time : Tree → Bool
is_clock_time v = (length (octets_of v) == 12) && (is_moment (clock_moment v) && is_at_most 99 (get_or (octets_of v) 8 0))

-- the value is the time of a clock that stands at a moment, in the form in which it is kept
abbrev pub ShowsMoment : Tree → Type 0
ShowsMoment v = (t : Moment) × IsMoment t × (v ≡ clock_value t)

-- Due times

-- the field is not specified, or this number
abbrev pub matches_field : ℕ → ℕ → Bool
matches_field field number = is_any field || (field == number)

abbrev pub matches_year : List ℕ → Moment → Bool
matches_year date t = (year_of date == 65535) || (year_of date == t.year)

abbrev pub matches_day : ℕ → Moment → Bool
matches_day day t =
    matches_field day t.day || (((day == 254) && (t.day == last_day t)) || ((day == 253) && (t.day + 1 == last_day t)))

abbrev pub matches_time : List ℕ → Moment → Bool
matches_time time t =
    matches_field (get_or time 0 0) t.hour
    && (matches_field (get_or time 1 0) t.minute
    && (matches_field (get_or time 2 0) t.second
    && matches_field (get_or time 3 0) 0))

abbrev pub matches_date : List ℕ → Moment → Bool
matches_date date t =
    matches_year date t
    && (matches_field (month_of date) t.month
    && (matches_day (day_of date) t
    && matches_field (weekday_of date) (weekday t)))

-- The element names the moment: each field is not specified, or is the moment's.
abbrev pub matches : Tree → Moment → Bool
matches v t = matches_time (time_bytes v) t && matches_date (date_bytes v) t

-- Some element of an execution_time names the moment.
abbrev pub is_schedule_due : List Tree → Moment → Bool
is_schedule_due times t = list_any (λ v. matches v t) times

-- The period isn't 0 and divides the seconds since 2000 (own profile).
abbrev pub is_capture_due : ℕ → Moment → Bool
is_capture_due period t = not (period == 0) && (seconds_since_2000 t % period == 0)
