use Rattle.std.proofs.Common.{◌≡◌, map, take}
use Rattle.cosem_data.specs.View.{tree}
use Rattle.meter_theory.specs.Fixed.{script_value}
use Rattle.class_control.specs.ScriptView.{script_of}
use Rattle.class_control.proofs.shapes.scripts_data.Given as goal

abbrev pub invariant-loop-script : goal.invariant-loop-script
invariant-loop-script l = map tree l.elements.items ≡ map script_value (map script_of (take l.script-index l.scripts))
