use Rattle.std.proofs.Common.{◌∙◌, arith, codes, refl, sym}
use Rattle.std.specs.Str.Parse.{ExplainsUnsignedError, HasUnsignedDigitsIfOk, ParsesUnsigned}
use Rattle.clap.specs.Words.{found_of, one_of, rows_of}
use Rattle.clap.proofs.WalkLemmas.{one_text-rows}
use Rattle.command_words.proofs.NumberLemmas.{from_zero, number_read}
use Rattle.command_words.proofs.serving.given_sessions.Goals as goal

pub returns : goal.returns
returns c =
    let text = one_text-rows (found_of c.args.found.now) (codes "sessions") in
    let read = number_read _ 64 0 18446744073709551615 refl (omega arith) (λ t r. ParsesUnsigned 64 10 t r × ExplainsUnsignedError 10 t r × HasUnsignedDigitsIfOk t r) (λ t x g. g.0)
    (one_of (codes "sessions") (rows_of (found_of c.args.found.now))) c.get_one.result
    (λ none. c.get_one.ensures.none (text ∙ none)) (λ t some. c.get_one.ensures.value t (text ∙ some)) in
    sym (read ∙ from_zero c.get_one.result)
