use Rattle.std.proofs.Common.{◌≡◌, map, take}
use Rattle.cosem_data.specs.View.{tree}
use Rattle.meter_theory.specs.Fixed.{up_down_value}
use Rattle.class_control.proofs.shapes.actions_data.Given as goal

abbrev pub invariant-loop-action : goal.invariant-loop-action
invariant-loop-action l = map tree l.elements.items ≡ map up_down_value (take l.action-index l.actions)
