use Rattle.std.proofs.Common.{◌+◌, ◌-◌, ◌≤◌, ◌∷◌, length, take, drop, sym, ap, ◌∙◌, arith}
use Rattle.std.proofs.lemmas.List.{take_all, length-drop}
use Rattle.step_words.proofs.Lines as lines
use Rattle.step_words.proofs.Lines.{lines_of}
use Rattle.step_words.proofs.texts.first_line.Goals as goal

pub returns-in_default-clause-last : goal.returns-in_default-clause-last
returns-in_default-clause-last c = lines.last_line c.args.text.now (sym c.end_of_line.ensures.first ∙ c.in_default.is)

pub returns-clause-more : goal.returns-clause-more
returns-clause-more c =
    let k = c.in-Some.end in
    let text = c.args.text.now in
    let long : length (drop (k + 1) text) ≤ length text - (k + 1) = omega (arith, length-drop (k + 1) text) in
    lines.first_line text k (sym c.end_of_line.ensures.first ∙ c.in-Some.is)
    ∙ ap (λ rest. take k text ∷ lines_of rest) (sym (take_all (length text - (k + 1)) (drop (k + 1) text) long))
