use Rattle.std.proofs.Common.{◌≤◌, ◌∙◌, ap, ap₂, length, subst, sym, arith}
use Rattle.meter_theory.specs.Sound.{IsSound}
use Rattle.flow_map.proofs.Places.{cells-few}
use Rattle.flow_page.specs.Clients.{counted, plus, size_of}
use Rattle.flow_page.specs.Marks.{told}
use Rattle.flow_page.proofs.Counting.{counted-few, counts-more}
use Rattle.flow_page.proofs.view.clients.counts_of.Goals as goal

pub plus-counts-requires : goal.plus-counts-requires
plus-counts-requires c =
    let small = cells-few c.args.facts.now.ways.now.plan (subst IsSound c.plan.ensures c.known.ensures.sound) in
    let one = subst (λ n. size_of n ≤ 3) (sym c.counted.ensures) (counted-few c.distance-distance.result c.has_at-allowed.result) in
    omega (arith, one, small, c.loop-cell.invariant.1, c.loop-cell-test.true, c.loop-cell.auto.cell-end, ap length c.cells-cell-end.ensures)

pub loop-cell-preserved : goal.loop-cell-preserved
loop-cell-preserved c =
    let one = subst (λ n. size_of n ≤ 3) (sym c.counted.ensures) (counted-few c.distance-distance.result c.has_at-allowed.result) in (
      c.plus-counts.ensures.is ∙ (ap₂ plus c.loop-cell.invariant.0 (c.counted.ensures ∙ ap₂ counted c.distance-distance.ensures c.has_at-allowed.ensures)
          ∙ sym (counts-more (told c.args.facts.now) c.args.reach c.args.client c.loop-cell.cell)),
      omega (arith, c.plus-counts.ensures.size, one, c.loop-cell.invariant.1),
    )

pub returns-clause-few : goal.returns-clause-few
returns-clause-few c =
    let small = cells-few c.args.facts.now.ways.now.plan (subst IsSound c.plan.ensures c.known.ensures.sound) in
    omega (arith, small, c.loop-cell.invariant.1, c.loop-cell.auto.cell-end, ap length c.cells-cell-end.ensures)
