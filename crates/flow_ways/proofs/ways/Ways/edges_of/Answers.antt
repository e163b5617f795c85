use Rattle.std.proofs.Common.{List, ◌-◌, ◌++◌, ◌∷◌, ◌∙◌, [], ap, arith}
use Rattle.meter_theory.specs.declared.flow.Edge.{Edge}
use Rattle.flow_edges.specs.Table.{edge_at}
use Rattle.flow_ways.proofs.Shown.{edges-on}
use Rattle.flow_ways.proofs.ways.Ways.edges_of.Goals as goal

pub loop-behind-preserved : goal.loop-behind-preserved
loop-behind-preserved c =
    let P = c.args.self.now.plan in
    let so_far = c.loop-behind.invariant in
    let pushed =
    ◌∙◌ {A = List Edge} c.in_ok-push.ensures.items
    (ap (λ e. c.loop-behind.edges.items ++ e ∷ []) (c.edge_between.ensures ∙ ap (λ cs. edge_at cs c.first_link-link.result) c.cells.ensures)) in
    edges-on P c.known.ensures.sound c.args.reach c.args.client so_far.0 c.loop-behind.behind c.args.distance (c.args.distance - 1 - c.loop-behind.behind) c.loop-behind.place c.near_of-place.result c.first_link-link.result
    c.loop-behind.edges.items c.push.new.self.items _ c.loop-behind-test.true so_far.1 (omega (arith, c.loop-behind-test.true)) so_far.3 c.first_link-link.ensures.first c.first_link-link.ensures.link
    c.near_of-place.ensures pushed so_far.4
