use Rattle.std.proofs.Common.{◌∙◌, ap, sym}
use Rattle.meter_theory.specs.Plan.{cells}
use Rattle.flow_edges.specs.Table.{cell_at}
use Rattle.label_certificate.proofs.Closed.{item_at}
use Rattle.flow_ways.proofs.Shown.{distance-within, no_more}
use Rattle.flow_ways.proofs.ways.Ways.is_within.Goals as goal

pub returns-in-Some : goal.returns-in-Some
returns-in-Some c =
    let P = c.args.self.now.plan in
    ap (no_more c.args.rounds) (sym c.in-Some.is)
    ∙ distance-within P c.known.ensures.sound c.args.reach c.args.client c.args.rounds (cell_at (cells P) c.args.cell) c.distance.result (item_at (cells P) c.args.cell c.requires.cell) c.distance.ensures.distance

pub returns-in-None : goal.returns-in-None
returns-in-None c =
    let P = c.args.self.now.plan in
    ap (no_more c.args.rounds) (sym c.in-None.is)
    ∙ distance-within P c.known.ensures.sound c.args.reach c.args.client c.args.rounds (cell_at (cells P) c.args.cell) c.distance.result (item_at (cells P) c.args.cell c.requires.cell) c.distance.ensures.distance
