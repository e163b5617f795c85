use Rattle.std.proofs.Common.{length, refl, subst, sym}
use Rattle.std.proofs.lemmas.Option.{slice_get_read}
use Rattle.meter_theory.specs.Plan.{cells}
use Rattle.flow_edges.specs.Table.{AreWithin, cell_at}
use Rattle.flow_ways.specs.Arriving.{FindsAllTo}
use Rattle.flow_ways.proofs.LedTo.{list-finds, list-within}
use Rattle.flow_ways.proofs.ways.Ways.links_to.Goals as goal

pub returns-in-Some-clause-found : goal.returns-in-Some-clause-found
returns-in-Some-clause-found c =
    let P = c.args.self.now.plan in
    subst (FindsAllTo P c.args.reach (cell_at (cells P) c.args.cell)) (sym c.deref.ensures.value)
    (list-finds (λ v. v.items) P c.args.reach c.lists_for.result.now c.args.cell c.in-Some.list.now c.lists_for.ensures (slice_get_read c.lists_for.result.now (length c.lists_for.result.now) c.args.cell c.in-Some.list.now refl c.in-Some.ensures.lookup.3.0 c.in-Some.ensures.lookup.1))

pub returns-in-Some-clause-within : goal.returns-in-Some-clause-within
returns-in-Some-clause-within c =
    let P = c.args.self.now.plan in
    subst (AreWithin (cells P)) (sym c.deref.ensures.value)
    (list-within (λ v. v.items) P c.args.reach c.lists_for.result.now c.args.cell c.in-Some.list.now c.lists_for.ensures (slice_get_read c.lists_for.result.now (length c.lists_for.result.now) c.args.cell c.in-Some.list.now refl c.in-Some.ensures.lookup.3.0 c.in-Some.ensures.lookup.1))
