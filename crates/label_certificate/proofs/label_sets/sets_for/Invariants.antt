use Rattle.std.proofs.Common.{◌≡◌, map, take}
use Rattle.meter_theory.specs.Ways.{set_for}
use Rattle.label_certificate.proofs.label_sets.sets_for.Given as goal

abbrev pub invariant-loop-label : goal.invariant-loop-label
invariant-loop-label l = l.sets.items ≡ map (set_for l.reach) (take l.label-index l.labels)
