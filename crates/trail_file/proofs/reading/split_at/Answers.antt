use Rattle.trail_file.proofs.Walks.{lacks_more}
use Rattle.trail_file.proofs.reading.split_at.Goals as goal

pub loop-i-preserved : goal.loop-i-preserved
loop-i-preserved c = lacks_more c.args.mark c.args.bytes.now c.loop-i.i c.loop-i-test.true c.if-bytes-i.false c.loop-i.invariant
