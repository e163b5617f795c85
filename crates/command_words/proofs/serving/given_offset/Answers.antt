use Rattle.std.proofs.Common.{◌∙◌, codes, sym}
use Rattle.std.specs.Int.{w16}
use Rattle.std.specs.Str.Parse.{ExplainsSignedError, HasSignedDigitsIfOk, ParsesSigned}
use Rattle.clap.specs.Words.{found_of, one_of, rows_of}
use Rattle.clap.proofs.WalkLemmas.{one_text-rows}
use Rattle.command_words.proofs.IntegerLemmas.{integer_read}
use Rattle.command_words.proofs.serving.given_offset.Goals as goal

pub returns : goal.returns
returns c =
    let text = one_text-rows (found_of c.args.found.now) (codes "offset") in
    sym (integer_read _ (λ t r. ParsesSigned w16 10 t r × ExplainsSignedError 10 t r × HasSignedDigitsIfOk t r) (λ t x g. g.0)
    (one_of (codes "offset") (rows_of (found_of c.args.found.now))) c.get_one.result
    (λ none. c.get_one.ensures.none (text ∙ none)) (λ t some. c.get_one.ensures.value t (text ∙ some)))
