use Rattle.std.proofs.Common.{◌∙◌, ap, sym, arith}
use Rattle.std.specs.List.{position_from}
use Rattle.cosem_data.specs.Cells.{cell, same_cell}
use Rattle.meter_theory.specs.Plan.{cells}
use Rattle.flow_edges.specs.Table.{cell_at}
use Rattle.flow_edges.proofs.Sources.{numbered, unnumbered}
use Rattle.flow_edges.proofs.edges.number_of.Goals as goal

pub unreachable-requires : goal.unreachable-requires
unreachable-requires c =
    let x = c.args.cell.now in
    unnumbered (cells c.args.instance.now.plan) x
    (ap (λ n. position_from (same_cell (cell x.class_id n x.index)) 0 (cells c.args.instance.now.plan)) c.requires.named ∙ sym c.in-None.ensures) c.requires.of_plan

pub returns-clause-within : goal.returns-clause-within
returns-clause-within c =
    let x = c.args.cell.now in
    let at = numbered (cells c.args.instance.now.plan) x c.in-Some.number
    (ap (λ n. position_from (same_cell (cell x.class_id n x.index)) 0 (cells c.args.instance.now.plan)) c.requires.named ∙ sym c.in-Some.ensures) in
    omega (arith, at.0, c.from.ensures)

pub returns-clause-there : goal.returns-clause-there
returns-clause-there c =
    let x = c.args.cell.now in
    ap (cell_at (cells c.args.instance.now.plan)) c.from.ensures
    ∙ (numbered (cells c.args.instance.now.plan) x c.in-Some.number
    (ap (λ n. position_from (same_cell (cell x.class_id n x.index)) 0 (cells c.args.instance.now.plan)) c.requires.named ∙ sym c.in-Some.ensures)).1
