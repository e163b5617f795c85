use Rattle.std.proofs.Common.{◌≡◌, sym, ap, ◌∙◌, get_or, map, take, ◌++◌, ◌∷◌, []}
use Rattle.std.proofs.lemmas.List.{map_more, get_or_default}
use Rattle.cosem_data.specs.declared.cell.CellRef.{CellRef}
use Rattle.meter_theory.specs.Edges as theory
use Rattle.meter_theory.specs.declared.flow.Edge.{Edge}
use Rattle.flow_edges.specs.declared.table.Link.{Link}
use Rattle.meter_theory.specs.declared.flow.Cause.TheVariants.{Captured}
use Rattle.flow_edges.specs.Table.{cell_at, no_cell}
use Rattle.object_model.proofs.Columns.{number-at}
use Rattle.object_model.proofs.Positions.{item-in}
use Rattle.flow_edges.proofs.Adding.{gathered_add, gathered-is}
use Rattle.flow_edges.proofs.edges.add_captured.Goals as goal

pub number_under-source-requires-clause-of_plan : goal.number_under-source-requires-clause-of_plan
number_under-source-requires-clause-of_plan c =
    let xs = c.args.captured.now in
    let i = c.loop-place.place in
    c.requires.captured (get_or xs i no_cell) (item-in xs i (get_or xs i no_cell) c.loop-place-test.true (get_or_default xs i no_cell (get_or xs i no_cell) c.loop-place-test.true))

pub number_under-source-requires-clause-number : goal.number_under-source-requires-clause-number
number_under-source-requires-clause-number c =
    number-at c.args.instance.now.plan c.args.captured.now c.args.numbers.now c.loop-place.place no_cell 0 c.requires.numbers c.loop-place-test.true

pub loop-place-preserved : goal.loop-place-preserved
loop-place-preserved c =
    let xs = c.args.captured.now in
    let i = c.loop-place.place in
    let l : Link = record { source = c.number_under-source.result; target = c.args.buffer; cause = Captured } in
    let a = c.args.table.now in
    let f : CellRef → Edge = λ x. theory.edge Captured x (cell_at a.cells c.args.buffer) in
    let there : cell_at a.cells c.number_under-source.result ≡ get_or xs i no_cell = ap (λ cs. cell_at cs c.number_under-source.result) c.requires.cells ∙ c.number_under-source.ensures.there in
    gathered-is a c.add.new.self _ _ (ap (λ x. map f (take i xs) ++ f x ∷ []) there ∙ sym (map_more f xs i no_cell c.loop-place-test.true))
    (gathered_add a c.loop-place.table c.add.new.self _ l c.loop-place.invariant c.in_ok-add.ensures.ok)
