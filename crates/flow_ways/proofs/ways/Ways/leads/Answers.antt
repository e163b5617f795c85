use Rattle.std.proofs.Common.{◌≡◌, ◌∙◌, ◌&&◌, ap, eqb, false, refl, sym, true}
use Rattle.std.proofs.lemmas.Bool.{eq-eqb, ne_eqb}
use Rattle.meter_theory.specs.Plan.{cells}
use Rattle.meter_theory.specs.Ways.{is_within}
use Rattle.flow_edges.specs.Table.{cell_at}
use Rattle.flow_edges.proofs.Sources.{are-cells}
use Rattle.flow_edges.specs.Ends.{far_of, near_of}
use Rattle.flow_ways.proofs.Shown.{link-leads}
use Rattle.flow_ways.proofs.ways.Ways.leads.Goals as goal

pub returns-then-far_of-cell : goal.returns-then-far_of-cell
returns-then-far_of-cell c =
    let P = c.args.self.now.plan in
    let sound = c.known.ensures.sound in
    let here : eqb (far_of c.args.reach c.args.link) c.args.cell ≡ true = eq-eqb (far_of c.args.reach c.args.link) c.args.cell (sym c.far_of.ensures ∙ c.if-far_of-cell.true) in
    ap (λ t. t && c.is_within.result) (sym here)
    ∙ link-leads P sound c.args.reach c.args.client (are-cells P sound) c.args.rounds c.args.cell c.args.link c.is_within.result c.requires.cell c.requires.link
    (c.is_within.ensures ∙ ap (λ n. is_within P c.args.reach c.args.client c.args.rounds (cell_at (cells P) n)) c.near_of.ensures)

pub returns-else-far_of-cell : goal.returns-else-far_of-cell
returns-else-far_of-cell c =
    let P = c.args.self.now.plan in
    let sound = c.known.ensures.sound in
    let within = is_within P c.args.reach c.args.client c.args.rounds (cell_at (cells P) (near_of c.args.reach c.args.link)) in
    let elsewhere : eqb (far_of c.args.reach c.args.link) c.args.cell ≡ false = ne_eqb (far_of c.args.reach c.args.link) c.args.cell (λ e. c.if-far_of-cell.false (c.far_of.ensures ∙ e)) in
    (ap (λ n. eqb n c.args.cell) c.far_of.ensures ∙ elsewhere)
    ∙ (ap (λ t. t && within) (sym elsewhere)
    ∙ link-leads P sound c.args.reach c.args.client (are-cells P sound) c.args.rounds c.args.cell c.args.link within c.requires.cell c.requires.link refl)
