use Rattle.meter_core.specs.StepView.{reply_of, step_of}
use Rattle.live_server.proofs.Asked.{answers-put, told-later}
use Rattle.live_server.proofs.asking.put.Goals as goal

pub returns-in-Ok-clause-answer : goal.returns-in-Ok-clause-answer
returns-in-Ok-clause-answer g c =
    let old = c.args.reader.now in
    let new = c.put.new.reader in
    let later = told-later _ c.in-Ok.is_told old new c.in-Ok.ensures.told in
    answers-put g.N.Naming.accepted.plan old new c.args.share.now c.put.new.share (step_of c.args.step) (reply_of c.in-Ok.reply) c.requires.other later c.in-Ok.ensures.reply c.in-Ok.ensures.share
