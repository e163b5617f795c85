use Rattle.std.proofs.Common.{◌++◌, List, ℕ, sym, ap, ◌∙◌}
use Rattle.line_words.proofs.Told.{none_changed}
use Rattle.line_words.proofs.telling.push_changes.Goals as goal

pub returns-in_ok-extend_from_slice : goal.returns-in_ok-extend_from_slice
returns-in_ok-extend_from_slice c =
    c.in_ok-extend_from_slice.ensures.items
    ∙ ap (λ (l : List ℕ). c.args.told.now.items ++ l) (sym (none_changed c.args.changes.now (sym c.is_empty.ensures ∙ c.if-is_empty.true)))
