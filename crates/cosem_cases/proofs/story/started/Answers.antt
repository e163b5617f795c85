use Rattle.std.proofs.Common.{sym, subst}
use Rattle.meter_theory.specs.States.{IsState}
use Rattle.meter_theory.proofs.Start.{start-is-state}
use Rattle.cosem_cases.proofs.story.started.Goals as goal

pub returns-in-Ok : goal.returns-in-Ok
returns-in-Ok c = subst (IsState c.args.plan.now) (sym c.in-Ok.ensures) (start-is-state c.args.plan.now c.known.ensures.sound)
