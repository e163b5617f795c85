use Rattle.std.proofs.Common.{◌∙◌, ap, sym, subst, arith, get_or}
use Rattle.meter_theory.specs.Plan.{cells}
use Rattle.meter_theory.specs.Lists.{IsIn}
use Rattle.flow_edges.proofs.Sources.{numbered, unnumbered}
use Rattle.label_certificate.proofs.Placed.{policy-is, source-cell}
use Rattle.label_certificate.proofs.numbered.policy_label.Goals as goal

pub bounds-own-from : goal.bounds-own-from
bounds-own-from c =
    let at = numbered (cells c.args.plan.now) c.source_of.result c.in-Some.number (sym c.cell_number.ensures ∙ c.in-Some.is) in
    omega (arith, at.0, c.from.ensures, c.requires.own)

pub unreachable-requires : goal.unreachable-requires
unreachable-requires c =
    unnumbered (cells c.args.plan.now) c.source_of.result (sym c.cell_number.ensures ∙ c.in-None.is)
    (subst (IsIn (cells c.args.plan.now)) (sym c.source_of.ensures) (source-cell c.args.plan.now c.known.ensures.sound c.args.cell.now c.requires.cell))

pub returns : goal.returns
returns c = λ table are.
    let at = numbered (cells c.args.plan.now) c.source_of.result c.in-Some.number (sym c.cell_number.ensures ∙ c.in-Some.is) in
    c.unwrap_or.ensures
    ∙ policy-is c.args.plan.now table c.args.default c.args.cell.now c.args.own.now c.in-Some.number c.index-own-from.result are at.0 (at.1 ∙ c.source_of.ensures)
    (c.index-own-from.is ∙ ap (λ k. get_or c.args.own.now k c.index-own-from.result) c.from.ensures)
