use Rattle.std.proofs.Common.{◌≡◌, ◌≤◌, ◌*◌, length, map, flat_map, take}
use Rattle.std.specs.List.{FoldsTo}
use Rattle.class_control.specs.ActionView.{action_of}
use Rattle.class_control.specs.ScriptView.{script_of}
use Rattle.meter_theory.specs.Labels.{all_scripts}
use Rattle.meter_theory.specs.declared.limits.TheConstants.{ACTIONS}
use Rattle.meter_effects.proofs.walk.each_of_table.Given as goal

abbrev pub invariant-loop-script : goal.invariant-loop-script
invariant-loop-script g l = record {
  first : l.first ≡ length (flat_map (λ s. map action_of s.actions.items) (take l.script-index l.scripts));
  few : l.first ≤ ACTIONS * l.script-index;
  walked : FoldsTo (g.V.Visitor.meets l.table.plan) l.fn.visitor (all_scripts l.table.plan (map script_of (take l.script-index l.scripts))) l.visitor;
}
