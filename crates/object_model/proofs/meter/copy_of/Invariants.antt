use Rattle.std.proofs.Common.{◌≡◌, flat_map, take}
use Rattle.object_model.specs.Stored.{stored_pairs}
use Rattle.object_model.proofs.meter.copy_of.Given as goal

abbrev pub invariant-loop-object : goal.invariant-loop-object
invariant-loop-object l = flat_map stored_pairs l.copy.items ≡ flat_map stored_pairs (take l.object-index l.objects)
