use Rattle.std.proofs.Common.{◌≡◌, ◌<◌, ◌∙◌, length, true, false, sym, ap, subst, set, rules}
use Rattle.std.specs.Prelude.{◌||◌}
use Rattle.meter_theory.specs.Edges.{same_cause}
use Rattle.flow_edges.specs.declared.table.Link.{Link}
use Rattle.flow_edges.specs.Causes.{has_cause}
use Rattle.flow_edges.specs.Table.{place_of, CellEdges, IsLink, IsMarked}
use Rattle.flow_edges.proofs.EdgeMarks.{marked-more, found_before, found_now, mark_at, mark_is, read_mark}
use Rattle.flow_edges.proofs.table.EdgeTable.add.Goals as goal
use Rattle.flow_edges.proofs.table.EdgeTable.add.Goals.{After-has}

-- the link that is added
abbrev link : After-has → Link
link c = record { source = c.args.source; target = c.args.target; cause = c.args.cause }

fits : (c : After-has) → IsLink c.self.inside.cells.items (link c)
fits c =
    let cells : c.self.inside.cells.items ≡ c.args.self.now.cells = ap (λ (t : CellEdges). t.cells) c.self.view_is in
    (subst (λ cs. c.args.source < length cs) (sym cells) c.requires.source, subst (λ cs. c.args.target < length cs) (sym cells) c.requires.target)

-- the place of its cells among the marks
place : (c : After-has) → c.place_of-place.result ≡ place_of (length c.self.inside.cells.items) (link c)
place c =
    let long : c.len.result ≡ length c.self.inside.cells.items = search rules in
    c.place_of-place.ensures.place ∙ ap (λ n. place_of n (link c)) long

-- and their mark
mark : (c : After-has) → c.index-found.result.now ≡ mark_at c.self.inside.marks.items (place_of (length c.self.inside.cells.items) (link c))
mark c =
    mark_is c.self.inside.cells.items c.self.inside.links.items c.self.inside.marks.items (link c) c.self.invariant (fits c) _ (place c) c.index-found.result.now c.index-found.ensures

pub returns-then-has-clause-ok : goal.returns-then-has-clause-ok
returns-then-has-clause-ok c =
    let at = (goal.at.returns-then-has-clause-ok c).After-has in
    let s = c.self.inside in
    found_before c.args.self.now s.cells.items s.links.items (link at) c.self.view_is
    (read_mark s.cells.items s.links.items s.marks.items (link at) c.self.invariant (fits at) c.index-found.result.now (mark at) c.has.result true c.has.ensures c.if-has.true)

pub invariant_of-self-2 : goal.invariant_of-self-2
invariant_of-self-2 c =
    let at = (goal.at.invariant_of-self-2 c).After-has in
    let s = c.self.inside in
    let p = place_of (length s.cells.items) (link at) in
    subst (λ p. IsMarked s.cells.items c.push.new.self.items (set s.marks.items p c.with.result)) (sym (place at))
    (subst (λ ls. IsMarked s.cells.items ls (set s.marks.items p c.with.result)) (sym c.in_ok-push.ensures.items)
    (marked-more s.cells.items s.links.items s.marks.items (link at) c.with.result c.self.invariant (fits at)
    (λ cause. c.with.ensures cause ∙ ap (λ m. same_cause cause c.args.cause || has_cause m cause) (mark at))))

pub returns-clause-ok : goal.returns-clause-ok
returns-clause-ok c =
    let at = (goal.at.returns-clause-ok c).After-has in
    let s = c.self.inside in
    found_now c.args.self.now s.cells.items s.links.items c.push.new.self.items (link at) c.self.view_is c.in_ok-push.ensures.items
    (read_mark s.cells.items s.links.items s.marks.items (link at) c.self.invariant (fits at) c.index-found.result.now (mark at) c.has.result false c.has.ensures c.if-has.false)
