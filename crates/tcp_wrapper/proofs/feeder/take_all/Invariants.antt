use Rattle.std.proofs.Common.{List, ℕ, ◌++◌, length}
use Rattle.tcp_wrapper.specs.Stream.{Splits, IsPartial}
use Rattle.tcp_wrapper.proofs.feeder.take_all.Given as goal

-- less than a frame is held, and of all bytes what is held and the rest stand behind the messages so far
abbrev pub invariant-loop-rest : goal.invariant-loop-rest
invariant-loop-rest l = record {
  partial : IsPartial l.held.items;
  stream : (before : List ℕ) → Splits before l.fn.messages.items l.fn.held.items →
      Splits (before ++ l.piece) l.messages.items (l.held.items ++ l.rest);
}

abbrev pub decreases-loop-rest : goal.decreases-loop-rest
decreases-loop-rest l = length l.rest
