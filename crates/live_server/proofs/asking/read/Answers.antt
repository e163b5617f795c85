use Rattle.std.proofs.Common.{subst}
use Rattle.std.proofs.Math.Nat.{le_trans}
use Rattle.meter_core.specs.StepView.{reply_of, step_of}
use Rattle.meter_live.proofs.Fronts.{prefix_length, prefix_trans}
use Rattle.meter_theory.specs.Sound.{IsSound}
use Rattle.live_server.proofs.Asked.{answers-read}
use Rattle.live_server.proofs.Sending.{read-sendable}
use Rattle.live_server.proofs.asking.read.Goals as goal

pub returns-in-Ok-clause-answer : goal.returns-in-Ok-clause-answer
returns-in-Ok-clause-answer g c =
    let old = c.args.reader.now in
    let told = c.catch_up.new.reader in
    let new = c.get.new.self in
    let step = step_of c.args.step.now in
    answers-read g.N.Naming.accepted.plan old new c.args.share.now c.catch_up.new.share step (reply_of c.in-Ok.reply) c.requires.get
    (prefix_trans old told new c.in_ok-catch_up.ensures.later c.in-Ok.ensures.later) c.in-Ok.ensures.reply c.in_ok-catch_up.ensures.share
    (λ granted. le_trans (c.in_ok-catch_up.ensures.seen granted) (prefix_length told new c.in-Ok.ensures.later))

pub returns-in-Ok-clause-sendable : goal.returns-in-Ok-clause-sendable
returns-in-Ok-clause-sendable g c =
    read-sendable g.N.Naming.accepted.plan (subst IsSound c.plan.ensures c.known.ensures.sound) c.get.new.self (step_of c.args.step.now) (reply_of c.in-Ok.reply) c.in-Ok.ensures.reply
