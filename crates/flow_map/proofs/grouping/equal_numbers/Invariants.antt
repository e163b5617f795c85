use Rattle.std.proofs.Common.{◌≡◌}
use Rattle.std.specs.List.{filter, range_with_len}
use Rattle.flow_map.specs.Grouping.{same_at}
use Rattle.flow_map.proofs.grouping.equal_numbers.Given as goal

abbrev pub invariant-loop-number : goal.invariant-loop-number
invariant-loop-number g l = l.numbers.items ≡ filter (same_at g.K.PartialEq.eq l.keys l.first) (range_with_len 0 l.number)
