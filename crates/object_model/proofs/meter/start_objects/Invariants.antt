use Rattle.std.proofs.Common.{◌≡◌, flat_map, take}
use Rattle.meter_theory.specs.Plan.{start_of}
use Rattle.object_model.specs.Stored.{stored_pairs}
use Rattle.object_model.proofs.meter.start_objects.Given as goal

abbrev pub invariant-loop-object : goal.invariant-loop-object
invariant-loop-object l = flat_map stored_pairs l.stored.items ≡ flat_map (λ o. start_of o.name o.part) (take l.object-index l.objects)
