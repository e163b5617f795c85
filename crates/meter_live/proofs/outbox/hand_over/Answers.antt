use Rattle.std.proofs.Common.{sym}
use Rattle.meter_live.proofs.Notes.{handed}
use Rattle.meter_live.proofs.outbox.hand_over.Goals as goal

pub returns-in-Ok-clause-same : goal.returns-in-Ok-clause-same
returns-in-Ok-clause-same c = handed c.args.pen.now.pending c.send.new.self.pending c.in-Some.change c.args.late.now c.take.new.self c.in-Ok.ensures.ok (sym c.in-Some.ensures.value) c.in-Some.ensures.after
