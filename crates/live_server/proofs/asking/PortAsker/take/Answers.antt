use Rattle.std.proofs.Common.{subst}
use Rattle.meter_core.specs.StepView.{step_of}
use Rattle.meter_theory.specs.Sound.{IsSound}
use Rattle.live_server.proofs.Sending.{taken-sendable}
use Rattle.live_server.proofs.asking.PortAsker.take.Goals as goal

pub returns-clause-sendable : goal.returns-clause-sendable
returns-clause-sendable g c =
    taken-sendable g.N.Naming.accepted.plan (subst IsSound c.plan.ensures c.known.ensures.sound) (step_of c.args.step) c.act.result c.act.ensures.reply
