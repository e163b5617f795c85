use Rattle.std.proofs.Common.{◌≡◌, ◌==◌, ◌≤◌, ◌*◌, length, map, flat_map, find, take, None}
use Rattle.class_control.specs.ActionView.{action_of}
use Rattle.meter_effects.proofs.walk.script_in.Given as goal
use Rattle.meter_theory.specs.declared.limits.TheConstants.{ACTIONS}

abbrev pub invariant-loop-script : goal.invariant-loop-script
invariant-loop-script l = record {
  start : l.start ≡ length (flat_map (λ s. map action_of s.actions.items) (take l.script-index l.scripts));
  few : l.start ≤ ACTIONS * l.script-index;
  none : find (λ s. s.id == l.id) (take l.script-index l.scripts) ≡ None;
}
