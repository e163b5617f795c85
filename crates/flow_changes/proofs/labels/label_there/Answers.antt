use Rattle.std.proofs.Common.{◌∙◌, ap, sym, arith, get_or}
use Rattle.meter_theory.specs.Plan.{cells}
use Rattle.flow_edges.proofs.Sources.{numbered, unnumbered}
use Rattle.flow_changes.proofs.Labelled.{there-is, nowhere-is}
use Rattle.flow_changes.proofs.labels.label_there.Goals as goal

pub bounds-labels-from : goal.bounds-labels-from
bounds-labels-from c =
    let at = numbered (cells c.args.plan.now) c.args.cell.now c.in-Some.number (sym c.cell_number.ensures ∙ c.in-Some.is) in
    omega (arith, at.0, c.from.ensures, c.requires)

pub returns-in-Some : goal.returns-in-Some
returns-in-Some c = λ Q are.
    let at = numbered (cells c.args.plan.now) c.args.cell.now c.in-Some.number (sym c.cell_number.ensures ∙ c.in-Some.is) in
    there-is c.args.plan.now c.args.cell.now c.args.labels.now c.in-Some.number c.index-labels-from.result Q are at.0 at.1
    (c.index-labels-from.is ∙ ap (λ k. get_or c.args.labels.now k c.index-labels-from.result) c.from.ensures)

pub returns-in-None : goal.returns-in-None
returns-in-None c = λ Q are. nowhere-is c.args.plan.now c.args.cell.now Q (unnumbered (cells c.args.plan.now) c.args.cell.now (sym c.cell_number.ensures ∙ c.in-None.is))
