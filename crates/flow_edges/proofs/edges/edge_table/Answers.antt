use Rattle.std.proofs.Common.{◌≡◌, Some, refl, ◌∙◌, ap₂, sym, subst, flat_map, take, List, []}
use Rattle.std.specs.Prelude.{slice_get}
use Rattle.std.proofs.lemmas.List.{take_all}
use Rattle.std.proofs.lemmas.Option.{slice_get_read}
use Rattle.meter_theory.specs.Edges.{edges_in, first_of_each}
use Rattle.meter_theory.specs.Plan.{Object}
use Rattle.meter_theory.specs.declared.flow.Edge.{Edge}
use Rattle.flow_edges.specs.Table.{AreCells}
use Rattle.flow_edges.proofs.Adding.{gathered_join, gathered-is}
use Rattle.flow_edges.proofs.Gathered.{all-gathered, joined}
use Rattle.flow_edges.proofs.Sources.{are-cells}
use Rattle.flow_edges.proofs.Steps.{flat_more}
use Rattle.flow_edges.proofs.edges.edge_table.Goals as goal

pub new-requires : goal.new-requires
new-requires c = subst AreCells (sym c.in_ok-cells.ensures) (are-cells c.args.plan.now c.known.ensures.sound)

pub add_object-requires-clause-object : goal.add_object-requires-clause-object
add_object-requires-clause-object c =
    let os = c.objects-objects.result.now in
    subst (λ all. slice_get all c.loop-number.number ≡ Some c.index-objects-number.result) c.objects-objects.ensures
    (slice_get_read os _ c.loop-number.number c.index-objects-number.result refl c.loop-number-test.true c.index-objects-number.is)

pub loop-number-preserved : goal.loop-number-preserved
loop-number-preserved c =
    let f : Object → List Edge = λ o. edges_in c.args.plan.now o.name o.part in
    let os = c.objects-objects.result.now in
    let i = c.loop-number.number in
    gathered-is c.in_ok-table.table c.add_object.new.table _ _ (flat_more f os i c.index-objects-number.result c.loop-number-test.true c.index-objects-number.is)
    (gathered_join c.in_ok-table.table c.loop-number.table c.add_object.new.table (flat_map f (take i os)) (f c.index-objects-number.result) c.loop-number.invariant c.in_ok-add_object.ensures)

pub returns : goal.returns
returns c =
    let f : Object → List Edge = λ o. edges_in c.args.plan.now o.name o.part in
    let os = c.objects-objects.result.now in
    let i = c.loop-number.number in
    all-gathered c.in_ok-table.table c.loop-number.table c.in_ok-cells.field-0.items (flat_map f (take i os)) c.in_ok-table.ensures c.loop-number.invariant
    ∙ ap₂ (λ cs xs. joined cs (first_of_each [] (flat_map f xs))) c.in_ok-cells.ensures (take_all i os c.loop-number-test.false ∙ c.objects-objects.ensures)
