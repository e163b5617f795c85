use Rattle.std.proofs.Common.{◌++◌, List, ℕ, sym, ap, ◌∙◌, append-nil}
use Rattle.step_words.specs.StepLines.{decoded_step}
use Rattle.line_words.proofs.Told.{told_nothing}
use Rattle.line_words.proofs.telling.push_line.Goals as goal

pub returns-then-not-branch-clause-ok : goal.returns-then-not-branch-clause-ok
returns-then-not-branch-clause-ok c =
    sym (ap (λ (l : List ℕ). c.args.text.now.items ++ l)
    (told_nothing c.args.answered.number (decoded_step c.args.answered.line.now) c.args.answered.reply.now c.args.changes.now (sym c.in_ok-push_step.ensures.told ∙ c.if-not-branch.true))
    ∙ append-nil c.args.text.now.items)
