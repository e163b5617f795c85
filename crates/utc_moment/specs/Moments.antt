-- What is seen of a moment: its seconds and its text.
use Rattle.std.specs.Prelude.{ℕ, ℤ, List}
use Rattle.jiff_core.specs.DateTime.{civil_seconds}
use Rattle.jiff.specs.Names.{iso_datetime_text}
use Rattle.utc_moment.specs.Clocks as clocks
use Rattle.utc_moment.specs.declared.moment.UtcMoment.{UtcMoment}

-- seconds after 1970-01-01T00:00:00Z, by days of 24 hours
abbrev pub seconds_of : UtcMoment → ℤ
seconds_of moment = civil_seconds moment.clock

-- `2026-11-28T18:53:41Z`, as `jiff` writes it (RFC 3339, date-time)
abbrev pub moment_text : UtcMoment → List ℕ
moment_text moment = clocks.zulu_text moment.clock

-- the same without Z
abbrev pub bare_text : UtcMoment → List ℕ
bare_text moment = iso_datetime_text moment.clock
