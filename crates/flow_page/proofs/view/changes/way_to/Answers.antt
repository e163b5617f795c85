use Rattle.std.proofs.Common.{ap, arith, length}
use Rattle.cosem_data.specs.Cells.{same_cell}
use Rattle.meter_theory.specs.Plan.{cells}
use Rattle.flow_map.proofs.Places.{position-within}
use Rattle.flow_page.proofs.view.changes.way_to.Goals as goal

pub whole_way_of-requires-clause-cell : goal.whole_way_of-requires-clause-cell
whole_way_of-requires-clause-cell c =
    let many = ap (λ P. length (cells P)) c.plan.ensures in
    omega (arith, position-within (same_cell c.args.cell.now) 0 (cells c.plan.result.now) c.in-Some.number c.in-Some.ensures, c.from.ensures, many)
