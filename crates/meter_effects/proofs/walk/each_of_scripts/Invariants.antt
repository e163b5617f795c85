use Rattle.std.proofs.Common.{take}
use Rattle.std.specs.List.{FoldsTo}
use Rattle.meter_theory.specs.Edges.{scripts_effects}
use Rattle.meter_effects.proofs.walk.each_of_scripts.Given as goal

abbrev pub invariant-loop-script : goal.invariant-loop-script
invariant-loop-script g l = FoldsTo (g.V.Visitor.meets l.plan) l.fn.visitor (scripts_effects l.plan (take l.script-index l.scripts)) l.visitor
