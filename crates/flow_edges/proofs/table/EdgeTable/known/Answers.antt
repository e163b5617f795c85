use Rattle.std.proofs.Common.{subst}
use Rattle.flow_edges.specs.Table.{AreBetween}
use Rattle.flow_edges.proofs.EdgeMarks.{between}
use Rattle.flow_edges.proofs.table.EdgeTable.known.Goals as goal

pub returns-clause-edges : goal.returns-clause-edges
returns-clause-edges c = subst (λ t. AreBetween t.cells t.edges) c.self.view_is (between c.self.inside.cells.items c.self.inside.links.items c.self.invariant.within)
