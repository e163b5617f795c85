use Rattle.meter_theory.specs.Steps.{action_effects}
use Rattle.class_control.specs.ActionView.{action_of}
use Rattle.meter_effects.proofs.Added.{flat_map-more, nothing_at}
use Rattle.meter_effects.proofs.Targets.{target-there}
use Rattle.meter_effects.proofs.Walks.{walks_along}
use Rattle.meter_effects.proofs.walk.each_of_actions.Goals as goal

pub returns-in_err-each_of_action-clause-none : goal.returns-in_err-each_of_action-clause-none
returns-in_err-each_of_action-clause-none g c = λ none.
    let is_ok = c.in_err-each_of_action.ensures.none
    (nothing_at (action_effects c.args.table.now.plan) action_of c.args.actions.now c.loop-place.place c.index-actions-place.result c.loop-place-test.true c.index-actions-place.is none) in cc

pub loop-place-preserved : goal.loop-place-preserved
loop-place-preserved g c =
    walks_along (g.V.Visitor.meets c.args.table.now.plan) c.args.visitor.now _ c.loop-place.visitor _ c.each_of_action.new.visitor _
    (flat_map-more (action_effects c.args.table.now.plan) action_of c.args.actions.now c.loop-place.place c.index-actions-place.result c.loop-place-test.true c.index-actions-place.is)
    c.loop-place.invariant c.in_ok-each_of_action.ensures.ok

pub each_of_action-requires : goal.each_of_action-requires
each_of_action-requires g c =
    target-there c.args.table.now c.args.start c.loop-place.place c.args.actions.now c.index-actions-place.result c.requires.targets c.loop-place-test.true c.index-actions-place.is
