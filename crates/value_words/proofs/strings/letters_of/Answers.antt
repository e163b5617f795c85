use Rattle.std.proofs.Common.{length}
use Rattle.std.proofs.lemmas.Result.{err_from_is_err_and}
use Rattle.value_words.specs.WordReading.{letters_at}
use Rattle.value_words.proofs.Loops.{letter_more, letter_last, letter_stops, letters_end}
use Rattle.value_words.proofs.strings.letters_of.Goals as goal

pub returns-in_err-letter : goal.returns-in_err-letter
returns-in_err-letter c =
    let text = c.args.text.now in
    let p = err_from_is_err_and c.from_residual.result c.from_residual.ensures.1 in
    rw (p.1, p.2) (letter_stops c.in_err-letter.field-0.0 c.loop.letters.items (length text) c.loop.counter c.loop.rest.now (letters_at (length text) text) c.loop-test.true c.in_err-letter.ensures c.loop.invariant)

pub returns-in-None : goal.returns-in-None
returns-in-None c =
    let text = c.args.text.now in
    letter_last c.loop.letters.items (length text) c.loop.counter c.in_ok-letter.letter c.loop.rest.now c.in_ok-letter.after.now (letters_at (length text) text) c.loop-test.true c.in_ok-letter.ensures c.in-None.is c.loop.invariant

pub loop-preserved : goal.loop-preserved
loop-preserved c =
    let text = c.args.text.now in
    rw c.in_ok-push-in-Some.ensures.items
    (letter_more c.loop.letters.items (length text) c.loop.counter c.in-Some.byte c.in_ok-letter.letter c.loop.rest.now c.in_ok-letter.after.now (letters_at (length text) text) c.loop-test.true c.in_ok-letter.ensures c.in-Some.is c.loop.invariant)

pub returns : goal.returns
returns c =
    let text = c.args.text.now in
    rw c.stop_at.ensures (letters_end c.loop.letters.items (length text) c.loop.counter c.loop.rest.now (letters_at (length text) text) c.loop-test.false c.loop.invariant)
