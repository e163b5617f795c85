use Rattle.std.proofs.Common.{◌≡◌, pos, ◌*ℤ◌, arith}
use Rattle.jiff_core.specs.DateTime.{civil_nanos}
use Rattle.jiff_core.proofs.SignedLemmas.{signed_casts}
use Rattle.utc_moment.proofs.Seconds.{seconds_shown, moment_shown}
use Rattle.utc_moment.proofs.moment.UtcMoment.from_seconds.Goals as goal

pub invariant_of-result : goal.invariant_of-result
invariant_of-result c =
    let e : civil_nanos c.to_datetime-clock.result ≡ pos c.args.seconds *ℤ pos 1_000_000_000 = omega (arith, signed_casts, c.to_datetime-clock.ensures, c.in-Ok.ensures.value) in
    record { shown = moment_shown c.to_datetime-clock.result c.args.seconds e (omega arith) }

pub returns-clause-found : goal.returns-clause-found
returns-clause-found c =
    let e : civil_nanos c.to_datetime-clock.result ≡ pos c.args.seconds *ℤ pos 1_000_000_000 = omega (arith, signed_casts, c.to_datetime-clock.ensures, c.in-Ok.ensures.value) in
    seconds_shown c.to_datetime-clock.result c.args.seconds e
