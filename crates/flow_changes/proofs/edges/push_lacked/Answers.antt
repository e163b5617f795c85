use Rattle.std.proofs.Common.{◌∙◌, Bool, ap, arith, get_or, map, not, sym}
use Rattle.meter_theory.specs.declared.flow.Cause.TheVariants.{Monitored}
use Rattle.flow_map.proofs.Places.{in-at}
use Rattle.flow_edges.specs.Table.{edge_at}
use Rattle.flow_edges.specs.declared.table.Link.{Link}
use Rattle.flow_changes.specs.Facts.{Fact, HasEdge}
use Rattle.flow_changes.specs.Lacked.{is_there}
use Rattle.flow_changes.specs.Shown.{shown}
use Rattle.flow_changes.proofs.Lists.{kept-more, put-more}
use Rattle.flow_changes.proofs.edges.push_lacked.Goals as goal
use Rattle.flow_changes.proofs.edges.push_lacked.Goals.{then-not-is_there+in_ok-push, else-not-is_there}

pub is_there-requires-clause-source : goal.is_there-requires-clause-source
is_there-requires-clause-source c = (c.requires.links _ (in-at c.args.links.now c.loop-link.link-index _ c.loop-link-test.true)).0

pub is_there-requires-clause-target : goal.is_there-requires-clause-target
is_there-requires-clause-target c = (c.requires.links _ (in-at c.args.links.now c.loop-link.link-index _ c.loop-link-test.true)).1

pub edge_between-requires : goal.edge_between-requires
edge_between-requires c =
    let d : Link = record { source = 0; target = 0; cause = Monitored } in
    let within = c.requires.links (get_or c.args.links.now c.loop-link.link-index d) (in-at c.args.links.now c.loop-link.link-index d c.loop-link-test.true) in
    (omega (arith, within.0, c.requires.cells), omega (arith, within.1, c.requires.cells))

pub loop-link-preserved : goal.loop-link-preserved
loop-link-preserved c =
    let d : Link = record { source = 0; target = 0; cause = Monitored } in
    let i = c.loop-link.link-index in
    let p : Link → Bool = λ l. not (is_there c.args.numbers.now c.args.other.now l) in
    let f : Link → Fact = λ l. HasEdge (edge_at c.args.cells.now l) in
    let start = map shown c.args.facts.now.items in
    elim c.if-not-is_there.branch [
      | then-not-is_there+in_ok-push w ↦
          ap (λ v. map shown v.items) w.facts-is
          ∙ put-more shown f p c.args.links.now i d start c.loop-link.facts.items w.push.new.self.items _ c.loop-link-test.true c.loop-link.invariant (ap not (sym c.is_there.ensures ∙ w.if-not-is_there.true)) (ap HasEdge w.edge_between.ensures) w.in_ok-push.ensures.items
      | else-not-is_there w ↦
          ap (λ v. map shown v.items) w.facts-is
          ∙ kept-more shown f p c.args.links.now i d start c.loop-link.facts.items c.loop-link-test.true c.loop-link.invariant (ap not (sym c.is_there.ensures ∙ w.if-not-is_there.false))
    ]
