use Rattle.std.proofs.Common.{◌<◌}
use Rattle.std.proofs.lemmas.List.Elements.{All-get_or}
use Rattle.object_model.proofs.Granted.{mask-more}
use Rattle.object_model.proofs.grants.mask_of.Goals as goal

pub loop-index-preserved : goal.loop-index-preserved
loop-index-preserved c =
    mask-more c.args.indexes.now c.loop-index.index-index c.loop-index.mask c.loop-index-test.true
    (All-get_or (λ i. i < 16) c.args.indexes.now c.loop-index.index-index 0 c.loop-index-test.true c.requires) c.loop-index.invariant
