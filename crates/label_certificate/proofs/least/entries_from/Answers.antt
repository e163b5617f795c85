use Rattle.std.proofs.lemmas.List.{get_or_default}
use Rattle.label_certificate.proofs.Closed.{pushed-more}
use Rattle.label_certificate.proofs.least.entries_from.Goals as goal

pub loop-number-preserved : goal.loop-number-preserved
loop-number-preserved c =
    let xs = c.args.cells.now in
    pushed-more xs c.args.influence.now c.args.learn.now c.loop-number.number _ c.loop-number.entries.items _ c.loop-number-test.true c.requires.influence c.requires.learn
    c.in_ok-push.ensures.items c.loop-number.invariant (get_or_default xs c.loop-number.number _ _ c.loop-number-test.true) c.index-influence-number.is c.index-learn-number.is
