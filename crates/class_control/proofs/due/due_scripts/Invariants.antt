use Rattle.std.proofs.Common.{◌≡◌, map, take}
use Rattle.cosem_data.specs.View.{tree}
use Rattle.meter_theory.specs.Steps.{due_scripts}
use Rattle.class_control.proofs.due.due_scripts.Given as goal

abbrev pub invariant-loop-place : goal.invariant-loop-place
invariant-loop-place l =
    l.scripts.items ≡ due_scripts (take l.place l.actions) (map tree l.thresholds) (tree l.seen) (tree l.fn.now)
