use Rattle.flow_edges.proofs.Steps.{link_within}
use Rattle.flow_edges.proofs.table.edges_between.Goals as goal

pub edge_between-requires : goal.edge_between-requires
edge_between-requires c = link_within c.args.cells.now c.args.links.now c.loop-link.link-index _ c.requires c.loop-link-test.true
