use Rattle.std.proofs.Common.{◌≡◌}
use Rattle.meter_theory.specs.Plan.{held}
use Rattle.meter_theory.specs.State.{keys}
use Rattle.object_model.specs.Undone.{all_undone}
use Rattle.meter_effects.proofs.effects.undo_all.Given as goal

abbrev pub invariant-loop-undo : goal.invariant-loop-undo
invariant-loop-undo l = record {
  undone : all_undone l.undos.items l.meter ≡ all_undone l.initial.undos.items l.initial.meter;
  held : keys l.meter ≡ held l.plan;
}

abbrev pub decreases-loop-undo : goal.decreases-loop-undo
decreases-loop-undo l = goal.left-loop-undo l
