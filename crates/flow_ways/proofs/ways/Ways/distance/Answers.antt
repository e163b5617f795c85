use Rattle.std.proofs.Common.{◌*◌, ◌+◌, ◌∙◌, None, ap, get_or, sym}
use Rattle.meter_theory.specs.Plan.{cells}
use Rattle.flow_edges.specs.Table.{cell_at}
use Rattle.label_certificate.proofs.Closed.{item_at}
use Rattle.flow_ways.specs.Distances.{number_at}
use Rattle.flow_ways.proofs.Distance.{found-distance}
use Rattle.flow_ways.proofs.ways.Ways.distance.Goals as goal

pub returns-clause-found : goal.returns-clause-found
returns-clause-found c =
    let P = c.args.self.now.plan in
    let numbers = c.distances-numbers.result.now in
    ap (λ n. get_or numbers (c.args.cell * 16 + n) None) c.from.ensures
    ∙ sym (found-distance P c.known.ensures.sound c.args.reach c.args.client (cell_at (cells P) c.args.cell) (item_at (cells P) c.args.cell c.requires.cell)
    (number_at numbers c.args.cell c.args.client) (c.distances-numbers.ensures.each c.args.cell c.args.client c.requires.cell c.requires.client))
