use Rattle.std.proofs.Common.{◌≡◌, ◌++◌, flat_map, map, take}
use Rattle.value_text.specs.Edges.{edge_text}
use Rattle.flow_ways.specs.Why.{indented}
use Rattle.flow_ways.proofs.why.push_edges.Given as goal

abbrev pub invariant-loop-edge : goal.invariant-loop-edge
invariant-loop-edge l = l.text.items ≡ l.initial.text.items ++ flat_map indented (map edge_text (take l.edge-index l.edges))
