use Rattle.object_model.specs.Grants.{masks_for}
use Rattle.object_model.proofs.Granted.{within, one-more}
use Rattle.object_model.proofs.Positions.{item-in}
use Rattle.object_model.proofs.grants.Grants.new.Goals as goal

pub place_of-requires : goal.place_of-requires
place_of-requires c = c.requires.room c.right-item.result (item-in c.args.rights.now c.loop-right.right-index c.right-item.result c.loop-right-test.true c.right-item.is)

pub join-requires-clause-within : goal.join-requires-clause-within
join-requires-clause-within c = λ access.
    let room = c.requires.room c.right-item.result (item-in c.args.rights.now c.loop-right.right-index c.right-item.result c.loop-right-test.true c.right-item.is) in
    within c.args.index.now c.right-item.result c.place_of.result _ room c.place_of.ensures (c.loop-right.invariant access).size

pub join-requires-clause-indexes : goal.join-requires-clause-indexes
join-requires-clause-indexes c =
    let room = c.requires.room c.right-item.result (item-in c.args.rights.now c.loop-right.right-index c.right-item.result c.loop-right-test.true c.right-item.is) in
    room.indexes

pub loop-right-preserved : goal.loop-right-preserved
loop-right-preserved c = λ access.
    let room = c.requires.room c.right-item.result (item-in c.args.rights.now c.loop-right.right-index c.right-item.result c.loop-right-test.true c.right-item.is) in
    one-more c.args.index.now access c.args.rights.now (masks_for access c.loop-right.grants) (masks_for access c.join.new.self) c.loop-right.right-index c.right-item.result
    c.place_of.result c.loop-right-test.true c.right-item.is (c.loop-right.invariant access) room c.place_of.ensures (c.join.ensures access)
