use Rattle.std.proofs.Common.{◌≡◌, ◌<◌, ℕ, false, get_or, map}
use Rattle.class_control.specs.ScriptView.{script_of}
use Rattle.meter_theory.specs.Edges.{among}
use Rattle.flow_map.specs.Granting.{executed_changes}
use Rattle.flow_map.proofs.Found.{no_script}
use Rattle.flow_map.proofs.granting.first_script.Given as goal

abbrev pub invariant-loop-script : goal.invariant-loop-script
invariant-loop-script l = (j : ℕ) → j < l.script-index → among (executed_changes l.plan l.execute (get_or (map script_of l.scripts) j no_script).id) l.cell ≡ false
