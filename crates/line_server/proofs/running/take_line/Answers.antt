use Rattle.std.proofs.Common.{List, ℕ, [], ◌∷◌, ◌++◌, append-nil, refl, sym, ap, ◌∙◌}
use Rattle.line_server.specs.Spelling.{reply_text}
use Rattle.line_server.specs.declared.line.Line.TheVariants.{Ask}
use Rattle.line_server.proofs.Doing.{line-done}
use Rattle.line_server.proofs.Lefts.{takes}
use Rattle.line_server.proofs.running.take_line.Goals as goal

pub returns-in-Ok-answer_ask : goal.returns-in-Ok-answer_ask
returns-in-Ok-answer_ask g c =
    let told = c.in-Ok-answer_ask.ensures.told in
    let new = c.answer_ask.new.asker in
    line-done g.A.Asker.answers c.args.plan.now c.args.asker.now new c.args.number c.args.line.now c.args.waiting.now.items c.answer_ask.new.waiting.items (Ask c.in-Ask.ask) (told.0 ∷ []) tt
    (sym c.in-Ask.is ∙ c.in-Ok.ensures) (λ why bad. cc)
    (new, told.0, [], told.1, (refl, refl), refl)
    (told.2 ∙ ap (λ (text : List ℕ). c.args.waiting.now.items ++ text) (sym (append-nil (reply_text told.0))))

pub returns-in-Ok-take_steps : goal.returns-in-Ok-take_steps
returns-in-Ok-take_steps g c =
    line-done g.A.Asker.answers c.args.plan.now c.args.asker.now c.take_steps.new.asker c.args.number c.args.line.now c.args.waiting.now.items c.args.waiting.now.items c.in-Ok.said [] tt
    c.in-Ok.ensures c.in_default-said.not-Unreadable
    (takes g.A.Asker.answers c.args.plan.now c.args.asker.now c.take_steps.new.asker c.in-Ok.said c.in_default-said.not-Ask c.in_default-said.not-Unreadable c.in-Ok-take_steps.ensures.taken)
    (sym (append-nil c.args.waiting.now.items))
