use Rattle.std.proofs.Common.{◌≡◌, ◌∙◌, List, ap, is_some, option_and_then, sym, true}
use Rattle.clap.specs.Words.{Row, Text, found_of, rows_of}
use Rattle.command_words.specs.Commands.{asked_in}
use Rattle.command_words.proofs.MatchesLemmas.{asked-named, asked-ok, rows-known}
use Rattle.command_words.proofs.reading.command_in.Goals as goal

pub returns : goal.returns
returns c =
    let p : Text × List Row = (c.in-Some.word.now, rows_of (found_of c.in-Some.found.now)) in
    let rows = rows-known c.args.matches.now p.0 p.1 c.in-Some.ensures.name c.in-Some.ensures.rows in
    let has : is_some (asked_in p) ≡ true = sym (ap (λ o. is_some (option_and_then asked_in o)) rows) ∙ c.requires in
    let asked = asked-named p c.in-Some-named.name _ (sym c.named.ensures ∙ c.in-Some-named.is) c.words_in.ensures has in
    asked-ok c.command_named.result _ _ c.command_named.ensures (asked ∙ sym (ap (option_and_then asked_in) rows))
