use Rattle.std.proofs.Common.{◌≡◌, length, take, drop, ℕ, List, ap, sym, ◌∙◌, arith, string_bytes, length-take}
use Rattle.std.proofs.lemmas.List.{take_rest}
use Rattle.line_sources.proofs.Left.{front_given}
use Rattle.line_sources.proofs.giving.Giving.give.Goals as goal

pub returns-clause-given : goal.returns-clause-given
returns-clause-given c =
    let bytes = string_bytes c.self.inside.text in
    let from = c.self.inside.from in
    let count = c.min-count.result in
    let copied = c.copy_from_slice.new.self in
    let whole = c.as_bytes.result.now in
    let front : copied ≡ take count (drop from bytes) =
    c.copy_from_slice.ensures.after ∙ ap (take count) (take_rest whole from) ∙ ap (λ (xs : List ℕ). take count (drop from xs)) c.as_bytes.ensures.value in
    let size : length copied ≡ count = omega (arith, c.copy_from_slice.ensures.len, c.min-count.ensures, length-take count c.args.room.now) in
    sym c.self.view_is ∙ front_given bytes copied (drop count c.args.room.now) from count front size
