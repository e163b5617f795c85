use Rattle.std.proofs.Common.{◌<◌, length, sym, subst, get_or}
use Rattle.std.proofs.lemmas.List.{map_more, get_or_default}
use Rattle.meter_theory.specs.Edges as theory
use Rattle.flow_edges.specs.declared.table.Link.{Link}
use Rattle.flow_edges.specs.Table.{cell_at}
use Rattle.object_model.proofs.Positions.{item-in}
use Rattle.flow_edges.proofs.Adding.{gathered_add, gathered-is}
use Rattle.flow_edges.proofs.edges.add_each.Goals as goal

pub add-requires-clause-source : goal.add-requires-clause-source
add-requires-clause-source c =
    let xs = c.args.sources.now in
    let i = c.loop-source.source-index in
    subst (λ cs. get_or xs i 0 < length cs) (sym c.loop-source.invariant.cells)
    (c.requires.sources (get_or xs i 0) (item-in xs i (get_or xs i 0) c.loop-source-test.true (get_or_default xs i 0 (get_or xs i 0) c.loop-source-test.true)))

pub loop-source-preserved : goal.loop-source-preserved
loop-source-preserved c =
    let xs = c.args.sources.now in
    let i = c.loop-source.source-index in
    let l : Link = record { source = get_or xs i 0; target = c.args.target; cause = c.args.cause } in
    let a = c.args.table.now in
    gathered-is a c.add.new.self _ _ (sym (map_more (λ s. theory.edge c.args.cause (cell_at a.cells s) (cell_at a.cells c.args.target)) xs i 0 c.loop-source-test.true))
    (gathered_add a c.loop-source.table c.add.new.self _ l c.loop-source.invariant c.in_ok-add.ensures.ok)
