use Rattle.std.proofs.Common.{◌≡◌, ◌++◌, map, take, true}
use Rattle.std.specs.List.{filter}
use Rattle.cosem_data.specs.View.{tree}
use Rattle.meter_theory.specs.Plan.{interface_of}
use Rattle.meter_theory.specs.Rights.{has_right}
use Rattle.meter_theory.specs.Fixed.{listed_object}
use Rattle.association_views.proofs.association.push_objects.Given as goal

abbrev pub invariant-loop-object : goal.invariant-loop-object
invariant-loop-object l = map tree l.list.items ≡ map tree l.initial.list.items ++ map (λ o. listed_object l.plan l.client o.name (interface_of o.part)) (filter (λ o. has_right l.plan l.client o.name (λ r. true)) (take l.object-index l.objects))
