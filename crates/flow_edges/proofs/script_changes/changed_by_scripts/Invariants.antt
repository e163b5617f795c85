use Rattle.std.proofs.Common.{◌≡◌, ◌≤◌, ◌*◌, length, map, flat_map, take}
use Rattle.class_control.specs.ActionView.{action_of}
use Rattle.class_control.specs.ScriptView.{script_of}
use Rattle.meter_theory.specs.declared.limits.TheConstants.{ACTIONS}
use Rattle.flow_edges.specs.Marking.{numbers_of_script}
use Rattle.flow_edges.proofs.script_changes.changed_by_scripts.Given as goal

abbrev pub invariant-loop-script : goal.invariant-loop-script
invariant-loop-script l = record {
  start : l.start ≡ length (flat_map (λ s. map action_of s.actions.items) (take l.script-index l.scripts));
  few : l.start ≤ ACTIONS * l.script-index;
  lists : map (λ numbers. numbers.items) l.lists.items ≡ map (numbers_of_script l.table.plan) (map script_of (take l.script-index l.scripts));
}
