use Rattle.std.proofs.Common.{get_or}
use Rattle.std.proofs.lemmas.List.{get_or_default}
use Rattle.object_model.proofs.Columns.{number-at}
use Rattle.flow_edges.specs.Table.{no_cell}
use Rattle.label_certificate.proofs.Joins.{emptied-more}
use Rattle.label_certificate.proofs.granted.join_writes.Goals as goal

pub loop-place-preserved : goal.loop-place-preserved
loop-place-preserved c =
    let xs = c.args.cells.now in
    let i = c.loop-place.place in
    let x = get_or xs i no_cell in
    emptied-more c.args.plan.now xs i x c.args.labels.now c.loop-place.labels _ c.loop-place-test.true (get_or_default xs i no_cell x c.loop-place-test.true)
    c.loop-place.invariant c.join_write.ensures

pub join_write-requires-clause-object : goal.join_write-requires-clause-object
join_write-requires-clause-object c = number-at c.args.plan.now c.args.cells.now c.args.owners.now c.loop-place.place no_cell 0 c.requires.owners c.loop-place-test.true
