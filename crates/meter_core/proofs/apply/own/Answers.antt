use Rattle.std.proofs.Common.{ap, ◌∙◌}
use Rattle.meter_theory.specs.Steps.{effects}
use Rattle.meter_core.specs.StepView.{step_of}
use Rattle.meter_effects.proofs.Added.{none_stands}
use Rattle.meter_core.proofs.Answered.{own_reply, own_memory, turn_own}
use Rattle.meter_core.proofs.apply.own.Goals as goal

pub apply_all-requires-clause-fits : goal.apply_all-requires-clause-fits
apply_all-requires-clause-fits c = c.in_ok-effects.ensures.ok.fits

pub returns-clause-ok : goal.returns-clause-ok
returns-clause-ok c =
    c.in_ok-undos.ensures.ok
    ∙ ap (effects c.args.instance.now.plan c.args.meter.now) c.in_ok-effects.ensures.ok.effects

pub returns-clause-reply : goal.returns-clause-reply
returns-clause-reply c = own_reply c.args.instance.now.plan c.args.meter.now (step_of c.args.step.now) (turn_own c.args.step.now c.args.instance.now.name c.requires.turn)

pub returns-in_err-effects-clause-denied : goal.returns-in_err-effects-clause-denied
returns-in_err-effects-clause-denied c = λ needs.
    let is_ok = c.in_err-effects.ensures.none (own_memory c.args.instance.now.plan c.args.meter.now (step_of c.args.step.now) (turn_own c.args.step.now c.args.instance.now.name c.requires.turn) needs) in cc

pub returns-in_err-undos-clause-denied : goal.returns-in_err-undos-clause-denied
returns-in_err-undos-clause-denied c = λ needs.
    let is_ok = c.in_err-undos.ensures.none
    (none_stands c.in_ok-effects.effects.items
    (c.in_ok-effects.ensures.ok.effects ∙ own_memory c.args.instance.now.plan c.args.meter.now (step_of c.args.step.now) (turn_own c.args.step.now c.args.instance.now.name c.requires.turn) needs)) in cc
