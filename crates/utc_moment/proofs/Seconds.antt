-- Whole seconds by the nanoseconds of what a clock shows.
use Rattle.std.proofs.Common.{◌≡◌, ℕ, ◌≤◌, ℤ, pos, ◌*ℤ◌, ◌≤ℤ◌, arith}
use Rattle.std.specs.Prelude.{int_div, int_rem}
use Rattle.jiff_core.specs.declared.civil.datetime.DateTime.{DateTime}
use Rattle.jiff_core.specs.DateTime.{civil_nanos, civil_seconds}
use Rattle.jiff_core.proofs.DateTimeLemmas.{civil_nanos-civil_seconds}
use Rattle.jiff_core.proofs.SignedLemmas.{signed_arith}
use Rattle.utc_moment.specs.Clocks.{IsMoment}

pub seconds_shown : (clock : DateTime) (n : ℕ) → civil_nanos clock ≡ pos n *ℤ pos 1_000_000_000 → civil_seconds clock ≡ pos n
seconds_shown clock n e = omega (arith, signed_arith, civil_nanos-civil_seconds clock)

pub moment_shown : (clock : DateTime) (n : ℕ) → civil_nanos clock ≡ pos n *ℤ pos 1_000_000_000 → n ≤ 253_402_207_200 → IsMoment clock
moment_shown clock n e most = record {
  since = omega (arith, signed_arith, civil_nanos-civil_seconds clock);
  until = omega (arith, signed_arith, civil_nanos-civil_seconds clock);
  whole = omega (arith, signed_arith, civil_nanos-civil_seconds clock);
}

-- the nanoseconds of a moment
pub moment_nanos : (clock : DateTime) → IsMoment clock → civil_nanos clock ≡ civil_seconds clock *ℤ pos 1_000_000_000
moment_nanos clock is = omega (arith, signed_arith, civil_nanos-civil_seconds clock, is.whole)

-- an instant at a whole second from 1970 on is shown by a moment
pub whole_shown : (clock : DateTime) (nanos seconds rest : ℤ) → civil_nanos clock ≡ nanos → seconds ≡ int_div nanos (pos 1_000_000_000) → rest ≡ int_rem nanos (pos 1_000_000_000)
    → pos 0 ≤ℤ seconds → rest ≡ pos 0 → nanos ≤ℤ pos 253_402_207_200_999_999_999 → IsMoment clock
whole_shown clock nanos seconds rest e quotient remainder since zero most =
    let second : seconds *ℤ pos 1_000_000_000 ≡ nanos = omega (arith, signed_arith) in
    record {
      since = omega (arith, signed_arith, civil_nanos-civil_seconds clock);
      until = omega (arith, signed_arith, civil_nanos-civil_seconds clock);
      whole = omega (arith, signed_arith, civil_nanos-civil_seconds clock);
    }

-- a moment is an instant at a whole second
pub no_rest : (clock : DateTime) (nanos rest : ℤ) → civil_nanos clock ≡ nanos → rest ≡ int_rem nanos (pos 1_000_000_000) → IsMoment clock → rest ≡ pos 0
no_rest clock nanos rest e remainder is = omega (arith, signed_arith, moment_nanos clock is, is.since)
