use Rattle.std.proofs.Common.{◌≡◌, map, take}
use Rattle.cosem_data.specs.View.{tree}
use Rattle.meter_theory.specs.State.{value}
use Rattle.object_model.proofs.meter.Meter.captured_values.Given as goal

abbrev pub invariant-loop-place : goal.invariant-loop-place
invariant-loop-place l = map tree l.values.items ≡ map (value l.self) (take l.place l.cells)
