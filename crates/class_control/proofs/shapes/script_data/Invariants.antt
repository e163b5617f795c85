use Rattle.std.proofs.Common.{◌≡◌, map, take}
use Rattle.cosem_data.specs.View.{tree}
use Rattle.meter_theory.specs.Fixed.{action_value}
use Rattle.class_control.specs.ActionView.{action_of}
use Rattle.class_control.proofs.shapes.script_data.Given as goal

abbrev pub invariant-loop-action : goal.invariant-loop-action
invariant-loop-action l = record {
  so_far : map tree l.actions.items ≡ map action_value (map action_of (take l.action-index l.action-items));
  whole : l.action-items ≡ l.script.actions.items;
}
