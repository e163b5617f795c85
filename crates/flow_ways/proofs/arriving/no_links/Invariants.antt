use Rattle.std.proofs.Common.{◌≡◌, [], map, replicate}
use Rattle.flow_ways.proofs.arriving.no_links.Given as goal

-- as many lists so far
abbrev pub invariant-loop : goal.invariant-loop
invariant-loop l = map (λ list. list.items) l.lists.items ≡ replicate l.counter []
