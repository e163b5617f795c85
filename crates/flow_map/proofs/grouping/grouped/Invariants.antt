use Rattle.std.proofs.Common.{◌≡◌, length, map, take}
use Rattle.std.specs.List.{filter, range_with_len}
use Rattle.flow_map.specs.Grouping.{same_at}
use Rattle.flow_map.proofs.grouping.grouped.Given as goal

abbrev pub invariant-loop-first : goal.invariant-loop-first
invariant-loop-first g l =
    map (λ group. group.items) l.groups.items
    ≡ map (λ first. filter (same_at g.K.PartialEq.eq l.keys first) (range_with_len 0 (length l.keys))) (take l.first-index l.first-items)
