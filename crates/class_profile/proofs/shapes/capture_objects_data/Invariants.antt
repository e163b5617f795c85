use Rattle.std.proofs.Common.{◌≡◌, map, take}
use Rattle.cosem_data.specs.View.{tree}
use Rattle.meter_theory.specs.Fixed.{capture_object}
use Rattle.class_profile.proofs.shapes.capture_objects_data.Given as goal

abbrev pub invariant-loop-cell : goal.invariant-loop-cell
invariant-loop-cell l = map tree l.objects.items ≡ map capture_object (take l.cell-index l.captured)
