use Rattle.std.proofs.Common.{[]}
use Rattle.meter_theory.specs.declared.refs.ScriptRef.{ScriptRef}
use Rattle.meter_theory.specs.Steps.{effects_of_script}
use Rattle.meter_effects.proofs.Walks.{walks_along, next_given}
use Rattle.meter_effects.proofs.walk.each_of_scripts.Goals as goal

pub loop-script-preserved : goal.loop-script-preserved
loop-script-preserved g c =
    let none : ScriptRef = record { table = record { 0 = [] }; script = 0 } in
    walks_along (g.V.Visitor.meets c.args.plan.now) c.args.visitor.now _ c.loop-script.visitor _ c.each_of_named.new.visitor _
    (next_given (effects_of_script c.args.plan.now) c.args.scripts.now c.loop-script.script-index none c.loop-script-test.true)
    c.loop-script.invariant c.in_ok-each_of_named.ensures
