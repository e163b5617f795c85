use Rattle.std.proofs.Common.{[]}
use Rattle.meter_theory.specs.declared.refs.ScriptRef.{ScriptRef}
use Rattle.meter_effects.proofs.Walks.{walks_on, walks_along, action_given}
use Rattle.meter_effects.proofs.walk.each_of_monitor.Goals as goal

pub loop-action-preserved : goal.loop-action-preserved
loop-action-preserved g c =
    let none : ScriptRef = record { table = record { 0 = [] }; script = 0 } in
    let last = c.each_of_named-in-loop-action.new.visitor in
    walks_along (g.V.Visitor.meets c.args.plan.now) c.args.visitor.now _ c.loop-action.visitor _ last _
    (action_given c.args.plan.now c.args.actions.now c.loop-action.action-index (record { up = none; down = none }) c.loop-action-test.true)
    c.loop-action.invariant
    (walks_on (g.V.Visitor.meets c.args.plan.now) c.loop-action.visitor _ c.each_of_named.new.visitor _ last c.in_ok-each_of_named.ensures c.in_ok-each_of_named-2.ensures)
