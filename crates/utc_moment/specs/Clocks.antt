-- What a clock in UTC shows at a whole second.
use Rattle.std.specs.Prelude.{ℕ, List, ◌++◌, codes, ◌≡◌, pos, ◌≤ℤ◌}
use Rattle.jiff_core.specs.declared.civil.datetime.DateTime.{DateTime}
use Rattle.jiff_core.specs.DateTime.{civil_seconds}
use Rattle.jiff.specs.Names.{iso_datetime_text}

-- from 1970-01-01T00:00:00Z to 9999-12-30T22:00:00Z, without a fraction of a second (own profile)
pub record IsMoment (clock : DateTime) : Type 0 where
  pub since : pos 0 ≤ℤ civil_seconds clock
  pub until : civil_seconds clock ≤ℤ pos 253_402_207_200
  pub whole : clock.time.subsec_nanosecond ≡ 0

-- `2026-11-28T18:53:41`, as `jiff` writes it, and Z (RFC 3339, date-time)
abbrev pub zulu_text : DateTime → List ℕ
zulu_text clock = iso_datetime_text clock ++ codes "Z"
