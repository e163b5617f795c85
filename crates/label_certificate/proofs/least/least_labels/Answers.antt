use Rattle.std.proofs.Common.{◌≡◌, ◌∙◌, map, sym, ap, ap₂, subst, length}
use Rattle.std.proofs.lemmas.List.{length-map}
use Rattle.meter_theory.specs.Labels.{AreLeast}
use Rattle.meter_theory.specs.Plan.{cells}
use Rattle.meter_theory.specs.Ways.{set_for}
use Rattle.meter_theory.specs.declared.flow.Reach.TheVariants.{Influence, Learn}
use Rattle.flow_edges.specs.Table.{AreCells, AreWithin, edge_at}
use Rattle.label_certificate.specs.Least.{AreClosed, arrow_of, labels_of_sets}
use Rattle.label_certificate.proofs.Closed.{are-least, labels-cells, links-within}
use Rattle.label_certificate.proofs.Listed.{listed_in_order}
use Rattle.label_certificate.proofs.least.least_labels.Goals as goal
use Rattle.label_certificate.proofs.least.least_labels.Goals.{In_ok-entries}

pub flow-requires : goal.flow-requires
flow-requires c =
    links-within c.args.table.now.cells c.links-links.result.now (length c.args.granted.now) c.links-links.ensures.within
    (c.requires.granted.size ∙ sym (ap (λ t. length t.cells) c.requires.table))

pub flow-requires-2 : goal.flow-requires-2
flow-requires-2 c =
    links-within c.args.table.now.cells c.links-links.result.now (length c.args.granted.now) c.links-links.ensures.within
    (c.requires.granted.size ∙ sym (ap (λ t. length t.cells) c.requires.table))

-- the labels are those of the sets, for all cells of the plan
labels-are : (c : In_ok-entries) → c.in_ok-entries.entries.items ≡ labels_of_sets (cells c.args.plan.now) c.in_ok-influence.influence.items c.in_ok-learn.learn.items
labels-are c =
    c.in_ok-entries.ensures
    ∙ (ap (λ xs. labels_of_sets xs c.deref.result.now c.deref-2.result.now) (c.cells.ensures ∙ ap (λ t. t.cells) c.requires.table)
    ∙ ap₂ (labels_of_sets (cells c.args.plan.now)) c.deref.ensures.value c.deref-2.ensures.value)

-- their cells are all of the plan's
cells-are : (c : In_ok-entries) → map (λ entry. entry.0) c.in_ok-entries.entries.items ≡ cells c.args.plan.now
cells-are c =
    let influence = c.in_ok-influence.ensures.size ∙ length-map c.args.granted.now (set_for Influence) in
    let learn = c.in_ok-learn.ensures.size ∙ length-map c.args.granted.now (set_for Learn) in
    let all = c.requires.granted.size in
    ap (map (λ entry. entry.0)) (labels-are c)
    ∙ labels-cells (cells c.args.plan.now) c.in_ok-influence.influence.items c.in_ok-learn.learn.items (influence ∙ all) (learn ∙ all)

pub new-requires : goal.new-requires
new-requires c = (c.args.plan.now, c.known.ensures.sound, listed_in_order c.args.plan.now c.in_ok-entries.entries.items c.known.ensures.sound (cells-are c))

pub returns-clause-least : goal.returns-clause-least
returns-clause-least c =
    let at = (goal.at.returns-clause-least c).In_ok-entries in
    let P = c.args.plan.now in
    let is = c.requires.table in
    let links = c.links-links.result.now in
    let granted = c.args.granted.now in
    let influence = c.in_ok-influence.influence.items in
    let learn = c.in_ok-learn.learn.items in
    subst (AreLeast P)
    (sym (c.new.ensures ∙ labels-are at))
    (are-least P c.known.ensures.sound (subst AreCells (ap (λ t. t.cells) is) c.known-2.ensures.cells) links granted influence learn
    (subst (λ t. map (edge_at t.cells) links ≡ t.edges) is c.links-links.ensures.edges)
    (subst (λ xs. AreWithin xs links) (ap (λ t. t.cells) is) c.links-links.ensures.within)
    c.requires.granted
    c.in_ok-influence.ensures c.in_ok-learn.ensures)

pub returns-clause-cells : goal.returns-clause-cells
returns-clause-cells c = let at = (goal.at.returns-clause-cells c).In_ok-entries in ap (map (λ entry. entry.0)) c.new.ensures ∙ cells-are at
