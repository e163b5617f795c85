use Rattle.std.proofs.Common.{◌-◌, ◌&&◌, ◌∙◌, ap, drop, find, length, sym, take, arith}
use Rattle.cosem_data.specs.Cells.{same_cell}
use Rattle.meter_theory.specs.Edges.{among}
use Rattle.meter_theory.specs.Plan.{cells}
use Rattle.meter_theory.specs.Rights.{may_set}
use Rattle.meter_theory.specs.Steps.{changed_by_write}
use Rattle.object_model.proofs.Positions.{first}
use Rattle.flow_map.proofs.Nearby.{found-around, no-cell}
use Rattle.flow_map.proofs.granting.around.Goals as goal

pub returns-in_default : goal.returns-in_default
returns-in_default c = λ client. no-cell c.args.plan.now c.known.ensures.sound c.args.cell.now client (sym c.cell_number.ensures ∙ c.in_default.is)

pub slice_bounds-result-count : goal.slice_bounds-result-count
slice_bounds-result-count c =
    let low = (first (same_cell c.args.cell.now) (cells c.args.plan.now) c.in-Some.number (sym c.cell_number.ensures ∙ c.in-Some.is)).within in
    omega (arith, low, ap length c.requires, c.from-number.ensures, c.saturating_sub-first.ensures, c.min-end.ensures)

pub slice_bounds-result-start : goal.slice_bounds-result-start
slice_bounds-result-start c =
    let low = (first (same_cell c.args.cell.now) (cells c.args.plan.now) c.in-Some.number (sym c.cell_number.ensures ∙ c.in-Some.is)).within in
    omega (arith, low, ap length c.requires, c.from-number.ensures, c.saturating_sub-first.ensures, c.min-end.ensures)

pub returns : goal.returns
returns c = λ client.
    let P = c.args.plan.now in
    let x = c.args.cell.now in
    let k = c.saturating_sub-first.result in
    let m = c.min-end.result - k in
    ap (λ cs. find (λ y. may_set P client y && among (changed_by_write y) x) (take m (drop k cs))) c.requires
    ∙ found-around P c.known.ensures.sound x client c.in-Some.number k m (sym c.cell_number.ensures ∙ c.in-Some.is)
    (λ j less after before. (
      omega (arith, after, c.from-number.ensures, c.saturating_sub-first.ensures),
      omega (arith, less, after, before, ap length c.requires, c.from-number.ensures, c.saturating_sub-first.ensures, c.min-end.ensures),
    ))
