use Rattle.std.proofs.Common.{◌≡◌, ◌++◌, ◌∙◌, OnOk, ap, ap₂, filter, map, not, subst, sym}
use Rattle.std.specs.List.{list_any}
use Rattle.meter_theory.specs.Edges.{edges, same_edge}
use Rattle.meter_theory.specs.Plan.{cells, is_cell}
use Rattle.flow_map.specs.Map.{Mapped}
use Rattle.flow_changes.specs.Changes.{lacks}
use Rattle.flow_changes.specs.Facts.{HasCell, HasEdge, common_facts}
use Rattle.flow_changes.specs.Shown.{shown}
use Rattle.flow_changes.proofs.Gains.{cells-lacked, edges-lacked}
use Rattle.flow_changes.proofs.compare.push_common.Goals as goal

pub returns-in-Cell : goal.returns-in-Cell
returns-in-Cell c =
    let C = c.args.mine.now in
    let D = c.args.theirs.now in
    let before = map shown c.args.facts.now.items in
    subst (λ k. OnOk c.push_cells.result (map shown c.push_cells.new.facts.items ≡ before ++ filter (lacks D C k) (common_facts C k))) (sym c.in-Cell.is)
    (subst (λ t. OnOk c.push_cells.result (map shown c.push_cells.new.facts.items ≡ before ++ t))
    (ap₂ (λ P xs. map HasCell (filter (λ x. not (is_cell P x)) xs)) (c.plan.ensures ∙ ap (λ (m : Mapped). m.plan) c.map-in-Cell.ensures) (c.cells.ensures ∙ ap (λ (m : Mapped). cells m.plan) c.map.ensures) ∙ sym (cells-lacked C D))
    c.push_cells.ensures)

pub returns-in-Edge : goal.returns-in-Edge
returns-in-Edge c =
    let C = c.args.mine.now in
    let D = c.args.theirs.now in
    let before = map shown c.args.facts.now.items in
    subst (λ k. OnOk c.push_edges.result (map shown c.push_edges.new.facts.items ≡ before ++ filter (lacks D C k) (common_facts C k))) (sym c.in-Edge.is)
    (subst (λ t. OnOk c.push_edges.result (map shown c.push_edges.new.facts.items ≡ before ++ t))
    (ap₂ (λ P es. map HasEdge (filter (λ e. not (list_any (same_edge e) (edges P))) es)) (c.plan-in-Edge.ensures ∙ ap (λ (m : Mapped). m.plan) c.map-theirs.ensures) (ap (λ t. t.edges) c.table.ensures ∙ ap (λ (m : Mapped). edges m.plan) c.map-in-Edge.ensures) ∙ sym (edges-lacked C D))
    c.push_edges.ensures)
