use Rattle.std.proofs.Common.{◌≡◌, ◌≤◌, ◌+◌, map, length}
use Rattle.std.specs.Vec.{vec_capacity}
use Rattle.meter_theory.specs.States.{IsState}
use Rattle.meter_theory.specs.Steps as theory
use Rattle.object_model.specs.EffectView.{effect_of, MayTakeAll}
use Rattle.object_model.specs.Undone.{all_undone}
use Rattle.meter_effects.proofs.effects.apply_all.Given as goal

abbrev pub invariant-loop-effect : goal.invariant-loop-effect
invariant-loop-effect l = record {
  kept : IsState l.named.plan l.meter;
  left : theory.effects l.named.plan l.meter (map effect_of l.effect-iterator.rest.items) ≡ theory.effects l.named.plan l.initial.meter (map effect_of l.fn.effects.items);
  may : MayTakeAll l.named.plan l.effect-iterator.rest.items;
  back : all_undone l.undos.items l.meter ≡ l.initial.meter;
  room : length l.undos.items + length l.effect-iterator.rest.items ≤ vec_capacity l.undos;
}
