use Rattle.std.proofs.Common.{rules, sym, ◌∙◌, string_bytes}
use Rattle.line_sources.proofs.Left.{none_left, all_given}
use Rattle.line_sources.proofs.giving.Giving.is_given.Goals as goal

pub returns : goal.returns
returns c =
    let bytes = string_bytes c.self.inside.text in
    let from = c.self.inside.from in
    let none = none_left bytes from in
    let all = all_given bytes from c.self.invariant in
    let view = c.self.view_is in (
      λ same. sym view ∙ none (search rules),
      λ e. let last = all (view ∙ e) in search rules,
    )
