use Rattle.std.proofs.lemmas.Result.{on_ok_weaker}
use Rattle.meter_theory.specs.Edges.{scripts_effects}
use Rattle.meter_theory.specs.Steps.{effects_of_script}
use Rattle.meter_effects.proofs.Walks.{walks_on}
use Rattle.meter_effects.proofs.walk.each_of_schedule.Goals as goal

pub returns : goal.returns
returns g c =
    let P = c.args.plan.now in
    on_ok_weaker c.each_of_scripts.result
    (λ walked. walks_on (g.V.Visitor.meets P) c.args.visitor.now (effects_of_script P c.args.part.now.executed_script) c.each_of_named.new.visitor (scripts_effects P c.args.part.now.menu.items) c.each_of_scripts.new.visitor
    c.in_ok-each_of_named.ensures walked)
    (rw c.deref.ensures.value at c.each_of_scripts.ensures)
