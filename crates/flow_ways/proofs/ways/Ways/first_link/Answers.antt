use Rattle.std.proofs.Common.{◌≡◌, ◌+◌, ◌∙◌, ℕ, suc, Some, subst, sym, arith}
use Rattle.meter_theory.specs.Plan.{cells}
use Rattle.meter_theory.specs.Ways.{IsDistance}
use Rattle.flow_edges.specs.Table.{cell_at, edge_at}
use Rattle.label_certificate.proofs.Closed.{link_in}
use Rattle.flow_map.proofs.Places.{in-at}
use Rattle.flow_ways.specs.Kept.{leads_within}
use Rattle.flow_ways.proofs.LedTo.{first-passes}
use Rattle.flow_ways.proofs.Passed.{no_link}
use Rattle.flow_ways.proofs.Shown.{found-behind, found-nowhere, some-edge}
use Rattle.flow_ways.proofs.ways.Ways.first_link.Goals as goal

next : (n : ℕ) → n + 1 ≡ suc n
next n = omega arith

pub leads-requires-clause-link : goal.leads-requires-clause-link
leads-requires-clause-link c =
    let links = c.links_to-link-items.result.now in
    link_in (cells c.args.self.now.plan) links _ c.links_to-link-items.ensures.within (in-at links c.loop-link.link-index no_link c.loop-link-test.true)

pub returns-then-leads-clause-first : goal.returns-then-leads-clause-first
returns-then-leads-clause-first c =
    let P = c.args.self.now.plan in
    let links = c.links_to-link-items.result.now in
    let leads = leads_within P c.args.reach c.args.client c.args.rounds (cell_at (cells P) c.args.cell) in
    sym (c.links_to-link-items.ensures.found leads (λ e h. first-passes _ _ h))
    ∙ found-behind (edge_at (cells P)) leads links c.loop-link.link-index no_link c.loop-link-test.true c.loop-link.invariant (sym c.leads.ensures ∙ c.if-leads.true)

pub returns-then-leads-clause-link : goal.returns-then-leads-clause-link
returns-then-leads-clause-link c =
    let links = c.links_to-link-items.result.now in
    link_in (cells c.args.self.now.plan) links _ c.links_to-link-items.ensures.within (in-at links c.loop-link.link-index no_link c.loop-link-test.true)

pub unreachable-requires : goal.unreachable-requires
unreachable-requires c =
    let P = c.args.self.now.plan in
    let links = c.links_to-link-items.result.now in
    let leads = leads_within P c.args.reach c.args.client c.args.rounds (cell_at (cells P) c.args.cell) in
    some-edge P c.known.ensures.sound c.args.reach c.args.client c.args.rounds (cell_at (cells P) c.args.cell)
    (subst (λ n. IsDistance P c.args.reach c.args.client (cell_at (cells P) c.args.cell) (Some n)) (next c.args.rounds) c.requires.distance)
    (sym (c.links_to-link-items.ensures.found leads (λ e h. first-passes _ _ h))
    ∙ found-nowhere (edge_at (cells P)) leads links no_link (λ j less. c.loop-link.invariant j (omega (arith, less, c.loop-link-test.false))))
