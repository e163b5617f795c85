use Rattle.std.proofs.Common.{take}
use Rattle.std.specs.List.{FoldsTo}
use Rattle.meter_theory.specs.Edges.{scripts_effects, scripts_named}
use Rattle.meter_effects.proofs.walk.each_of_monitor.Given as goal

abbrev pub invariant-loop-action : goal.invariant-loop-action
invariant-loop-action g l = FoldsTo (g.V.Visitor.meets l.plan) l.fn.visitor (scripts_effects l.plan (scripts_named (take l.action-index l.actions))) l.visitor
