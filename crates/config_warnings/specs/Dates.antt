-- Dates of execution times that no calendar has: a day that the month doesn't have, and another weekday than that of the day
-- (IEC 62056-6-2, date and time formats). That such a date is worth a word is own profile.
use Rattle.std.specs.Prelude.{ℕ, pos, ◌+◌, ◌-◌, ◌==◌, nat_le, nat_lt, Bool, not, ◌&&◌, ◌||◌, cond, List, length}
use Rattle.jiff_core.specs.Calendar.{days_from_civil, days_in_month, weekday_number}
use Rattle.cosem_data.specs.Tree.{Tree}
use Rattle.meter_theory.specs.Times.{date_bytes, year_of, month_of, day_of, weekday_of, is_any}
use Rattle.config_warnings.specs.declared.dates.GivenDate.{GivenDate}

-- the year isn't specified
abbrev pub is_any_year : ℕ → Bool
is_any_year year = year == 65535

-- The date says a month and a day of it, in a year up to 9999 or in any. Months by which daylight saving begins or ends say none.
abbrev pub says_day : GivenDate → Bool
says_day d =
    (nat_le d.year 9999 || is_any_year d.year)
    && ((nat_le 1 d.month && nat_le d.month 12)
    && (nat_le 1 d.day && not (is_any d.day)))

-- the year of the date; where it says none, one with 29 February, since some year has it
abbrev pub year_in : GivenDate → ℕ
year_in d = cond (is_any_year d.year) 2000 d.year

-- the last day of its month
abbrev pub last_day : GivenDate → ℕ
last_day d = days_in_month (pos (year_in d)) d.month

-- the number of its day: FE is the last of the month, FD the second last
abbrev pub day_in : GivenDate → ℕ
day_in d = cond (d.day == 254) (last_day d) (cond (d.day == 253) (last_day d - 1) d.day)

-- its month doesn't have its day
abbrev pub lacks_day : GivenDate → Bool
lacks_day d = nat_lt (last_day d) (day_in d)

-- it says a year and a weekday, which isn't that of its day; 1 is Monday, 7 Sunday
abbrev pub has_other_weekday : GivenDate → Bool
has_other_weekday d =
    not (is_any_year d.year)
    && (not (is_any d.weekday)
    && not (d.weekday == weekday_number (days_from_civil (pos d.year) d.month (day_in d)) + 1))

-- no calendar has the date
abbrev pub is_nowhere : GivenDate → Bool
is_nowhere d = says_day d && (lacks_day d || has_other_weekday d)

-- the date of the bytes of one
abbrev pub given_date : List ℕ → GivenDate
given_date date = record { year = year_of date; month = month_of date; day = day_of date; weekday = weekday_of date }

-- an execution time names a date that no calendar has
abbrev pub names_no_date : Tree → Bool
names_no_date v = (length (date_bytes v) == 5) && is_nowhere (given_date (date_bytes v))
