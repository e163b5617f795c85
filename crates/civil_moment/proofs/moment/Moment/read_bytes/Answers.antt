use Rattle.std.proofs.Common.{Ok, Err, ap}
use Rattle.civil_moment.specs.declared.moment.BadMoment.{BadMoment}
use Rattle.civil_moment.specs.Texts.{numbers_at}
use Rattle.civil_moment.specs.Reading.{moment_of}
use Rattle.civil_moment.proofs.Readings.{is_found, text_gives, one_moment, no_numbers, no_moment}
use Rattle.civil_moment.proofs.MomentText.{moment_read}
use Rattle.civil_moment.proofs.moment.Moment.read_bytes.Goals as goal

pub returns-in-Some-moment-clause-found : goal.returns-in-Some-moment-clause-found
returns-in-Some-moment-clause-found c =
    let found = c.in-Some-moment.ensures.found in
    (found.0, is_found c.args.text.now (moment_of c.in-Some.numbers) c.in-Some-moment.moment c.in-Some.ensures found.1)

pub returns-in-Some-moment-clause-exact : goal.returns-in-Some-moment-clause-exact
returns-in-Some-moment-clause-exact c = λ t is e.
    ap Ok (one_moment (moment_of c.in-Some.numbers) c.in-Some-moment.moment t (numbers_at c.args.text.now) c.in-Some-moment.ensures.found.1 c.in-Some.ensures (text_gives c.args.text.now t is e))

pub returns-in-None-moment-clause-exact : goal.returns-in-None-moment-clause-exact
returns-in-None-moment-clause-exact c = λ t is e.
    no_moment (moment_of c.in-Some.numbers) t (numbers_at c.args.text.now) c.in-None-moment.ensures.exact c.in-Some.ensures (text_gives c.args.text.now t is e) is

pub returns-in-None-clause-exact : goal.returns-in-None-clause-exact
returns-in-None-clause-exact c = λ t is e. no_numbers t (numbers_at c.args.text.now) c.in-None.ensures (text_gives c.args.text.now t is e)

pub returns-in-Some-moment-clause-value : goal.returns-in-Some-moment-clause-value
returns-in-Some-moment-clause-value c =
    moment_read c.args.text.now (Ok c.in-Some-moment.moment) (returns-in-Some-moment-clause-found c) (returns-in-Some-moment-clause-exact c)

pub returns-in-None-moment-clause-value : goal.returns-in-None-moment-clause-value
returns-in-None-moment-clause-value c = moment_read c.args.text.now (Err _) tt (returns-in-None-moment-clause-exact c)

pub returns-in-None-clause-value : goal.returns-in-None-clause-value
returns-in-None-clause-value c = moment_read c.args.text.now (Err _) tt (returns-in-None-clause-exact c)
