use Rattle.std.proofs.Common.{◌≡◌, map, take}
use Rattle.object_model.proofs.plan.names_of.Given as goal

abbrev pub invariant-loop-object : goal.invariant-loop-object
invariant-loop-object l = l.names.items ≡ map (λ o. o.name) (take l.object-index l.objects)
