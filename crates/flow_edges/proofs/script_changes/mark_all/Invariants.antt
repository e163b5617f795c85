use Rattle.std.proofs.Common.{◌≡◌, ◌<◌, ◌==◌, ◌||◌, ℕ, false, length, get_or, take}
use Rattle.std.specs.List.{list_any}
use Rattle.flow_edges.proofs.script_changes.mark_all.Given as goal

abbrev pub invariant-loop-number : goal.invariant-loop-number
invariant-loop-number l = record {
  size : length l.marks.items ≡ length l.initial.marks.items;
  marked : (k : ℕ) → k < length l.initial.marks.items →
      get_or l.marks.items k false ≡ (get_or l.initial.marks.items k false || list_any (λ n. n == k) (take l.number-index l.numbers));
}
