use Rattle.std.proofs.Common.{◌≡◌, Option, Some, None, IfSome, IsSome, ap, sym, ◌∙◌, true, subst, rules}
use Rattle.std.specs.Prelude.{IsSomeAnd}
use Rattle.std.specs.Str.{bytes_eq}
use Rattle.std.proofs.lemmas.Slice.Eq.{bytes_eq-Decides}
use Rattle.jiff_core.specs.DateTime.{civil_seconds}
use Rattle.jiff.specs.Names.{iso_datetime_text}
use Rattle.utc_moment.specs.Clocks.{IsMoment}
use Rattle.utc_moment.specs.Moments.{seconds_of}
use Rattle.utc_moment.specs.declared.moment.UtcMoment.{UtcMoment}
use Rattle.utc_moment.proofs.Texts.{read_again}
use Rattle.utc_moment.proofs.moment.UtcMoment.read_bare.Goals as goal

-- what is shown by the clock of a moment has its seconds
seconds_again : (m : UtcMoment) (shown : Option UtcMoment) → IfSome shown (λ moment. moment.clock ≡ m.clock) → IsSome shown → IsSomeAnd shown (λ moment. seconds_of moment ≡ seconds_of m)
seconds_again m (Some moment) found some = ap civil_seconds found
seconds_again m None found some = absurd cc

pub returns-in_default-clause-exact : goal.returns-in_default-clause-exact
returns-in_default-clause-exact c = λ m is.
    c.in_default.not-Ok m.clock (read_again m.clock c.args.text.now c.parse_datetime.result c.parse_datetime.ensures is)

pub returns-then-eq-clause-exact : goal.returns-then-eq-clause-exact
returns-then-eq-clause-exact c = λ m is.
    let read = read_again m.clock c.args.text.now c.parse_datetime.result c.parse_datetime.ensures is in
    let same : c.from_plain.result ≡ m.clock = cc in
    let shown : IsMoment c.from_plain.result = subst IsMoment (sym same) m.shown in
    seconds_again m c.shown_by.result (rw same at c.shown_by.ensures.found) (c.shown_by.ensures.exact shown)

pub returns-else-eq-clause-exact : goal.returns-else-eq-clause-exact
returns-else-eq-clause-exact c = λ m is.
    let read = read_again m.clock c.args.text.now c.parse_datetime.result c.parse_datetime.ensures is in
    let same : c.in-Ok.clock ≡ m.clock = cc in
    let printed : c.as_bytes.result.now ≡ iso_datetime_text c.in-Ok.clock = search rules in
    let text : c.as_bytes.result.now ≡ c.args.text.now = printed ∙ ap iso_datetime_text same ∙ sym is in
    let equal : bytes_eq c.as_bytes.result.now c.args.text.now ≡ true = (bytes_eq-Decides c.as_bytes.result.now c.args.text.now).1 text in
    absurd (cc)
