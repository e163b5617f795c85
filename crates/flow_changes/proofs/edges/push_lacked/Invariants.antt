use Rattle.std.proofs.Common.{◌≡◌, ◌++◌, filter, map, not, take}
use Rattle.flow_edges.specs.Table.{edge_at}
use Rattle.flow_changes.specs.Facts.{HasEdge}
use Rattle.flow_changes.specs.Lacked.{is_there}
use Rattle.flow_changes.specs.Shown.{shown}
use Rattle.flow_changes.proofs.edges.push_lacked.Given as goal

-- those of the links before
abbrev pub invariant-loop-link : goal.invariant-loop-link
invariant-loop-link l =
    map shown l.facts.items ≡ map shown l.initial.facts.items ++ map (λ k. HasEdge (edge_at l.cells k)) (filter (λ k. not (is_there l.numbers l.other k)) (take l.link-index l.links))
