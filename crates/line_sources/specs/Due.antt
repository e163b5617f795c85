-- Which line is due by a clock. All of it is own profile.
use Rattle.std.specs.Prelude.{ℕ, ◌+◌, ◌-◌, ◌==◌, true, false, min, Option, Some, None, if◌then◌else◌}
use Rattle.line_sources.specs.declared.due.Follows.{Follows}
use Rattle.line_sources.specs.declared.due.Follows.TheVariants.{Ticks, Moments}
use Rattle.line_sources.specs.declared.due.Line.{Line}
use Rattle.line_sources.specs.declared.due.Line.TheVariants as line

-- the first line sets the clock, unless the meter has a clock object
abbrev pub begins_with : Follows → ℕ → Option Line
begins_with (Ticks false) now = None
begins_with (Ticks true) now = Some (line.At now)
begins_with Moments now = Some (line.At now)

-- how many seconds a line tells
abbrev pub seconds_in : Option Line → ℕ
seconds_in None = 0
seconds_in (Some (line.At second)) = 1
seconds_in (Some (line.Ticks count)) = count

-- seconds pass, at most an hour a line
abbrev pub ticks : ℕ → ℕ → Line
ticks from now = line.Ticks (min (now - from) 3_600)

-- the line behind a second, up to now, where so many were skipped before it: a meter that is told moments is told the next; else seconds pass, unless some were skipped and its clock is to be set
abbrev pub follows_by : Follows → ℕ → ℕ → ℕ → Line
follows_by Moments skipped from now = line.At (from + 1)
follows_by (Ticks false) skipped from now = ticks from now
follows_by (Ticks true) skipped from now = if skipped == 0 then ticks from now else line.At (from + 1)
