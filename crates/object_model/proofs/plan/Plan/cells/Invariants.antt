use Rattle.std.proofs.Common.{◌≡◌, flat_map, take}
use Rattle.meter_theory.specs.Plan.{start_of}
use Rattle.meter_theory.specs.State.{keys}
use Rattle.object_model.proofs.plan.Plan.cells.Given as goal

abbrev pub invariant-loop-object : goal.invariant-loop-object
invariant-loop-object l = l.cells.items ≡ keys (flat_map (λ o. start_of o.name o.part) (take l.object-index l.self.objects))
