use Rattle.std.proofs.Common.{◌≡◌, ◌∙◌, Some, ap, length, option_map, subst, sym}
use Rattle.meter_theory.specs.Plan.{cells}
use Rattle.meter_theory.specs.Ways.{IsDistance, shown_way}
use Rattle.flow_edges.specs.Table.{cell_at}
use Rattle.label_certificate.proofs.Closed.{item_at}
use Rattle.meter_theory.proofs.Ways.{distance-first, shown-way}
use Rattle.flow_ways.proofs.ways.Ways.shown.Goals as goal

pub returns-in_ok-edges_of-in-Some-clause-shown : goal.returns-in_ok-edges_of-in-Some-clause-shown
returns-in_ok-edges_of-in-Some-clause-shown c =
    let P = c.args.self.now.plan in
    let x = cell_at (cells P) c.args.cell in
    let d = c.in-Some.distance in
    let is : IsDistance P c.args.reach c.args.client x (Some d) = subst (IsDistance P c.args.reach c.args.client x) c.in-Some.is c.distance.ensures.distance in
    let long : length c.in_ok-edges_of-in-Some.field-0.items ≡ d =
    ap length c.in_ok-edges_of-in-Some.ensures
    ∙ (shown-way P c.known.ensures.sound c.args.reach c.args.client d x (item_at (cells P) c.args.cell c.requires.cell) (distance-first P c.known.ensures.sound c.args.reach c.args.client d x is)).1 in (
      subst (λ n. IsDistance P c.args.reach c.args.client x (Some n)) (sym long) is,
      c.in_ok-edges_of-in-Some.ensures ∙ ap (λ n. shown_way P c.args.reach c.args.client n x) (sym long),
    )

pub returns-in_ok-edges_of-in-Some-clause-found : goal.returns-in_ok-edges_of-in-Some-clause-found
returns-in_ok-edges_of-in-Some-clause-found c =
    let P = c.args.self.now.plan in
    let x = cell_at (cells P) c.args.cell in
    ap Some c.in_ok-edges_of-in-Some.ensures ∙ ap (option_map (λ d. shown_way P c.args.reach c.args.client d x)) (sym c.in-Some.is ∙ c.distance.ensures.found)

pub returns-in-None-clause-found : goal.returns-in-None-clause-found
returns-in-None-clause-found c =
    let P = c.args.self.now.plan in
    let x = cell_at (cells P) c.args.cell in
    ap (option_map (λ d. shown_way P c.args.reach c.args.client d x)) (sym c.in-None.is ∙ c.distance.ensures.found)
