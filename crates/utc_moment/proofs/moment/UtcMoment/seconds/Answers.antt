use Rattle.std.proofs.Common.{arith}
use Rattle.jiff_core.proofs.SignedLemmas.{signed_casts}
use Rattle.utc_moment.proofs.Seconds.{moment_nanos}
use Rattle.utc_moment.proofs.moment.UtcMoment.seconds.Goals as goal

pub overflow_cast-result : goal.overflow_cast-result
overflow_cast-result c =
    let is = c.args.self.shown in
    omega (arith, signed_casts, moment_nanos c.args.self.clock is, is.since, is.until, c.in-Ok.ensures.value, c.as_second.ensures)

pub unreachable-requires : goal.unreachable-requires
unreachable-requires c =
    let is = c.args.self.shown in
    let wrong = c.in-Err.ensures.succeeds.1 (omega (arith, signed_casts, moment_nanos c.args.self.clock is, is.since, is.until), omega (arith, signed_casts, moment_nanos c.args.self.clock is, is.since, is.until)) in
    absurd (cc)

pub returns : goal.returns
returns c =
    let is = c.args.self.shown in
    omega (arith, signed_casts, moment_nanos c.args.self.clock is, is.since, is.until, c.in-Ok.ensures.value, c.as_second.ensures)
