use Rattle.std.proofs.Common.{◌≡◌}
use Rattle.std.specs.List.{range_with_len}
use Rattle.flow_map.specs.Grouping.{firsts, same_at}
use Rattle.flow_map.proofs.grouping.first_numbers.Given as goal

abbrev pub invariant-loop-number : goal.invariant-loop-number
invariant-loop-number g l = l.firsts.items ≡ firsts (same_at g.K.PartialEq.eq l.keys) (range_with_len 0 l.number)
