use Rattle.std.proofs.Common.{refl, rules, subst}
use Rattle.flow_map.specs.Map.{Mapped}
use Rattle.flow_page.specs.Shown.{AreEdges}
use Rattle.flow_page.proofs.view.page.page_from.Goals as goal

pub returns-clause-page : goal.returns-clause-page
returns-clause-page c = record {
  heading_is = refl;
  object_count_is = search rules;
  cell_count_is = search rules;
  clients_are = c.in_ok-clients.ensures;
  matrix_is = c.in_ok-matrix.ensures;
  objects_are = search rules;
  edges_are = subst (λ (C : Mapped). AreEdges C.plan c.in_ok-edges.edges.count c.in_ok-edges.edges.causes.items c.in_ok-edges.edges.listed.items) c.map.ensures c.in_ok-edges.ensures;
}
