use Rattle.std.proofs.Common.{map, take}
use Rattle.flow_ways.specs.Arriving.{AreArriving}
use Rattle.flow_ways.proofs.arriving.arriving.Given as goal

-- the links before stand in their lists
abbrev pub invariant-loop-link : goal.invariant-loop-link
invariant-loop-link l = AreArriving l.reach l.count (take l.link-index l.links) (map (λ list. list.items) l.lists.items)
