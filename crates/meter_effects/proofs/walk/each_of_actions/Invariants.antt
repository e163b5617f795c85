use Rattle.std.proofs.Common.{map, take}
use Rattle.std.specs.List.{FoldsTo}
use Rattle.class_control.specs.ActionView.{action_of}
use Rattle.meter_theory.specs.Steps.{actions_effects}
use Rattle.meter_effects.proofs.walk.each_of_actions.Given as goal

abbrev pub invariant-loop-place : goal.invariant-loop-place
invariant-loop-place g l = FoldsTo (g.V.Visitor.meets l.table.plan) l.fn.visitor (actions_effects l.table.plan (map action_of (take l.place l.actions))) l.visitor
