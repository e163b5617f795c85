use Rattle.std.proofs.Common.{sym, subst}
use Rattle.meter_theory.specs.States.{IsState}
use Rattle.meter_theory.proofs.Start.{start-is-state}
use Rattle.line_server.proofs.running.LineMeter.start.Goals as goal

pub new-asker-requires : goal.new-asker-requires
new-asker-requires c = subst (IsState c.args.plan.now) (sym c.in_ok-start.ensures) (start-is-state c.args.plan.now c.known.ensures.sound)
