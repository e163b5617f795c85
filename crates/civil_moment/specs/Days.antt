-- Days from the start of the year 2000.
use Rattle.std.specs.Prelude.{ℕ, ◌≤◌, ℤ, pos, ◌-ℤ◌}
use Rattle.jiff_core.specs.Calendar.{days_from_civil, IsCivilDate}

-- the calendar has this day, in the years 2000 to 9999
pub record IsDay (year month day : ℕ) : Type 0 where
  pub since : 2000 ≤ year
  pub until : year ≤ 9999
  pub civil : IsCivilDate (pos year) month day

-- how many days after 1 January 2000
abbrev pub days_from_2000 : ℕ → ℕ → ℕ → ℤ
days_from_2000 year month day = days_from_civil (pos year) month day -ℤ days_from_civil (pos 2000) 1 1
