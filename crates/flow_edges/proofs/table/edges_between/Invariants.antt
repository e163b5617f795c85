use Rattle.std.proofs.Common.{◌≡◌, take, map}
use Rattle.flow_edges.specs.Table.{edge_at}
use Rattle.flow_edges.proofs.table.edges_between.Given as goal

abbrev pub invariant-loop-link : goal.invariant-loop-link
invariant-loop-link l = l.edges.items ≡ map (edge_at l.cells) (take l.link-index l.links)
