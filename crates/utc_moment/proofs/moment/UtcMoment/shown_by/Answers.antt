use Rattle.std.proofs.Common.{rules, ◌≡◌, pos, ◌≤ℤ◌, to_z, of_z, w32, arith, FitsSigned, sym, ap, ◌∙◌}
use Rattle.std.proofs.lemmas.Int.{to_z-of_z}
use Rattle.jiff_core.specs.DateTime.{civil_nanos}
use Rattle.jiff_core.proofs.SignedLemmas.{signed_casts}
use Rattle.utc_moment.proofs.Seconds.{moment_nanos, whole_shown, no_rest}
use Rattle.utc_moment.proofs.moment.UtcMoment.shown_by.Goals as goal
use Rattle.utc_moment.proofs.moment.UtcMoment.shown_by.Goals.{else-second-ge0-via-then-second-ge0+else-subsec_nanosecond-eq0, else-second-ge0-via-else-second-ge0}

pub invariant_of-result : goal.invariant_of-result
invariant_of-result c =
    let fits : FitsSigned w32 c.subsec_nanosecond.result = search rules in
    let zero : c.subsec_nanosecond.result ≡ pos 0 = sym (to_z-of_z w32 c.subsec_nanosecond.result fits) ∙ ap (to_z w32) c.if-subsec_nanosecond-eq0.true in
    let since : pos 0 ≤ℤ c.as_second-second.result = omega (arith, signed_casts) in
    let nanos : civil_nanos c.args.clock ≡ c.in-Ok.instant.nanosecond = omega (arith, signed_casts, c.in-Ok.ensures.value) in
    record { shown = whole_shown c.args.clock c.in-Ok.instant.nanosecond c.as_second-second.result c.subsec_nanosecond.result nanos c.as_second-second.ensures c.subsec_nanosecond.ensures since zero c.in-Ok.instant.in_range.1 }

pub returns-in_default-clause-exact : goal.returns-in_default-clause-exact
returns-in_default-clause-exact c = λ is.
    c.in_default.ensures.succeeds.1 (omega (arith, signed_casts, moment_nanos c.args.clock is, is.since, is.until), omega (arith, signed_casts, moment_nanos c.args.clock is, is.since, is.until))

pub returns-else-second-ge0-clause-exact : goal.returns-else-second-ge0-clause-exact
returns-else-second-ge0-clause-exact c = λ is.
    let nanos : civil_nanos c.args.clock ≡ c.in-Ok.instant.nanosecond = omega (arith, signed_casts, c.in-Ok.ensures.value) in
    elim c.else-second-ge0.branch [
      | else-second-ge0-via-then-second-ge0+else-subsec_nanosecond-eq0 w ↦
          absurd (w.if-subsec_nanosecond-eq0.false (ap (of_z w32) (no_rest c.args.clock c.in-Ok.instant.nanosecond w.subsec_nanosecond.result nanos w.subsec_nanosecond.ensures is)))
      | else-second-ge0-via-else-second-ge0 w ↦
          absurd (omega (arith, signed_casts, moment_nanos c.args.clock is, is.since, is.until, c.in-Ok.ensures.value, c.as_second-second.ensures))
    ]
