use Rattle.std.proofs.Common.{◌≡◌, map, take}
use Rattle.cosem_data.specs.View.{tree}
use Rattle.meter_theory.specs.Menus.{capture_object}
use Rattle.class_profile.proofs.menus.are_capture_objects.Given as goal

abbrev pub invariant-loop-i : goal.invariant-loop-i
invariant-loop-i l = map tree (take l.i l.values) ≡ map capture_object (take l.i l.cells)
