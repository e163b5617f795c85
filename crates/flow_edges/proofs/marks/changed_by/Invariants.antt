use Rattle.std.proofs.Common.{◌≡◌, List, length, map, take}
use Rattle.meter_theory.specs.declared.refs.ScriptRef.{ScriptRef}
use Rattle.meter_theory.specs.Edges.{among, scripts_effects}
use Rattle.meter_theory.specs.Plan.{cells}
use Rattle.meter_theory.specs.Steps.{changed}
use Rattle.object_model.specs.Tables.{AreScriptPlaces}
use Rattle.flow_edges.proofs.marks.changed_by.Given as goal

abbrev pub invariant-loop-place : goal.invariant-loop-place
invariant-loop-place l = record {
  size : length l.marks.items ≡ length (cells l.changes);
  marks : (scripts : List ScriptRef) → AreScriptPlaces l.changes scripts l.places →
      l.marks.items ≡ map (among (changed (scripts_effects l.changes (take l.place-index scripts)))) (cells l.changes);
}
