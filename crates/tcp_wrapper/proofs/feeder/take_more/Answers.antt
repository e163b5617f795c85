use Rattle.std.proofs.Common.{List, ℕ, ◌++◌, subst, sym, ◌∙◌, ap}
use Rattle.tcp_wrapper.specs.Stream.{IsPartial, Causes}
use Rattle.tcp_wrapper.proofs.Splitting.{part-taken, Causes-append}
use Rattle.tcp_wrapper.proofs.feeder.take_more.Goals as goal

pub returns-in-Partial-clause-takes : goal.returns-in-Partial-clause-takes
returns-in-Partial-clause-takes c = (
  part-taken c.args.held.now.items c.split_at.result.0.now c.split_at.result.1.now c.args.piece.now c.extend_from_slice.new.self.items c.split_at.ensures.by_index.0 c.in-Ok.ensures.items,
  subst IsPartial c.deref-2.ensures.value c.in-Partial.ensures,
)

pub returns-in-Ok-message_of-clause-takes : goal.returns-in-Ok-message_of-clause-takes
returns-in-Ok-message_of-clause-takes c = (
  part-taken c.args.held.now.items c.split_at.result.0.now c.split_at.result.1.now c.args.piece.now c.extend_from_slice.new.self.items c.split_at.ensures.by_index.0 c.in-Ok.ensures.items
      ∙ ap (λ (t : List ℕ). t ++ c.split_at.result.1.now) (sym c.deref-in-Whole.ensures.value ∙ c.in-Ok-message_of.ensures.0),
  c.in-Ok-message_of.ensures.1,
  c.clear.ensures.items,
)

pub returns-in-Refused-clause-takes : goal.returns-in-Refused-clause-takes
returns-in-Refused-clause-takes c =
    let fault = c.in-Refused.fault in
    let taken = part-taken c.args.held.now.items c.split_at.result.0.now c.split_at.result.1.now c.args.piece.now c.extend_from_slice.new.self.items c.split_at.ensures.by_index.0 c.in-Ok.ensures.items in
    subst (λ (t : List ℕ). Causes fault t) (sym taken)
    (Causes-append fault c.extend_from_slice.new.self.items c.split_at.result.1.now
    (subst (λ (t : List ℕ). Causes fault t) c.deref-2.ensures.value c.in-Refused.ensures.1))
