use Rattle.std.proofs.Common.{◌≡◌, ◌++◌, ◌∙◌, OnOk, ap, length, map, subst}
use Rattle.std.proofs.lemmas.List.{length-map}
use Rattle.label_certificate.specs.LabelText.{cell_place}
use Rattle.flow_changes.specs.Shown.{shown}
use Rattle.label_certificate.proofs.Closed.{links-within}
use Rattle.flow_changes.proofs.EdgesLacked.{are-below, lacked-of}
use Rattle.flow_changes.proofs.edges.push_edges.Goals as goal

pub push_lacked-requires-clause-links : goal.push_lacked-requires-clause-links
push_lacked-requires-clause-links c =
    links-within c.args.table.now.cells c.links.result.now (length c.deref.result.now) c.links.ensures.within
    (ap length (c.deref.ensures.value ∙ c.in_ok-numbers.ensures) ∙ length-map c.cells-cells.result.now (cell_place c.args.other_plan.now) ∙ ap length c.cells-cells.ensures)

pub push_lacked-requires-clause-numbers : goal.push_lacked-requires-clause-numbers
push_lacked-requires-clause-numbers c =
    are-below c.args.other_plan.now c.args.table.now.cells c.deref.result.now (length c.args.other.now.cells)
    (c.deref.ensures.value ∙ c.in_ok-numbers.ensures ∙ ap (map (cell_place c.args.other_plan.now)) c.cells-cells.ensures) (ap (λ t. length t.cells) c.requires)

pub returns : goal.returns
returns c =
    subst (λ t. OnOk c.push_lacked.result (map shown c.push_lacked.new.facts.items ≡ map shown c.args.facts.now.items ++ t))
    (lacked-of c.args.other_plan.now c.args.table.now c.args.other.now c.requires c.known.ensures.edges c.links.result.now c.links.ensures.within c.links.ensures.edges
    c.deref.result.now (c.deref.ensures.value ∙ c.in_ok-numbers.ensures ∙ ap (map (cell_place c.args.other_plan.now)) c.cells-cells.ensures)
    c.cells-cells.result.now c.cells-cells.ensures)
    c.push_lacked.ensures
