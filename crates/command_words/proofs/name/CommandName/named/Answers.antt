use Rattle.std.proofs.Common.{◌∙◌, ap, bytes_eq, sym}
use Rattle.command_words.specs.CommandLine.{all_names, word_of}
use Rattle.command_words.proofs.FindLemmas.{find-ended, find-here, find-later}
use Rattle.command_words.proofs.name.CommandName.named.Goals as goal

pub loop-name-preserved : goal.loop-name-preserved
loop-name-preserved c =
    c.loop-name.invariant ∙ find-later (λ name. bytes_eq c.args.word.now (word_of name)) all_names c.loop-name.name-index _ c.loop-name-test.true
    (ap (bytes_eq c.args.word.now) (sym c.word.ensures) ∙ sym c.if-eq.ensures)

pub returns-then-eq : goal.returns-then-eq
returns-then-eq c =
    sym (c.loop-name.invariant ∙ find-here (λ name. bytes_eq c.args.word.now (word_of name)) all_names c.loop-name.name-index _ c.loop-name-test.true
    (ap (bytes_eq c.args.word.now) (sym c.word.ensures) ∙ sym c.if-eq.ensures))

pub returns : goal.returns
returns c = sym (c.loop-name.invariant ∙ find-ended (λ name. bytes_eq c.args.word.now (word_of name)) all_names c.loop-name.name-index c.loop-name-test.false)
