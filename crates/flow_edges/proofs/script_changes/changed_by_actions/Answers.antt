use Rattle.std.proofs.Common.{map}
use Rattle.class_control.specs.ActionView.{action_of}
use Rattle.meter_theory.specs.Steps.{actions_effects}
use Rattle.flow_edges.specs.declared.script_changes.Numbers.{Numbers}
use Rattle.flow_edges.proofs.Walked.{walk-numbers}
use Rattle.flow_edges.proofs.script_changes.changed_by_actions.Goals as goal

pub returns : goal.returns
returns c =
    let P = c.args.table.now.plan in
    let none : Numbers = record { numbers = c.new.result } in
    walk-numbers P (actions_effects P (map action_of c.args.actions.now)) none c.each_of_actions.new.visitor c.new.ensures.items c.in_ok-each_of_actions.ensures.ok
