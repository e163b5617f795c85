use Rattle.std.proofs.Common.{◌≡◌, pos, ◌*ℤ◌, arith}
use Rattle.jiff_core.specs.DateTime.{civil_nanos}
use Rattle.jiff_core.proofs.SignedLemmas.{signed_casts}
use Rattle.utc_moment.proofs.Seconds.{seconds_shown}
use Rattle.line_sources.proofs.moments.clock_at.Goals as goal

pub returns-clause-found : goal.returns-clause-found
returns-clause-found c =
    let e : civil_nanos c.to_datetime.result ≡ pos c.args.second *ℤ pos 1_000_000_000 = omega (arith, signed_casts, c.to_datetime.ensures, c.in-Ok.ensures.value) in
    seconds_shown c.to_datetime.result c.args.second e
