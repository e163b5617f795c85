use Rattle.std.specs.Prelude.{map, true}
use Rattle.cosem_data.specs.View.{tree}
use Rattle.meter_theory.specs.Plan.{interface_of}
use Rattle.meter_theory.specs.Rights.{has_right}
use Rattle.meter_theory.specs.Fixed.{listed_object}
use Rattle.association_views.proofs.Shapes.{listed_more}
use Rattle.association_views.proofs.association.push_objects.Goals as goal

pub loop-object-preserved : goal.loop-object-preserved
loop-object-preserved c =
    listed_more (λ o. listed_object c.args.plan.now c.args.client o.name (interface_of o.part)) (λ o. has_right c.args.plan.now c.args.client o.name (λ r. true))
    c.args.objects.now c.loop-object.object-index c.object-item.result (map tree c.args.list.now.items) (map tree c.loop-object.list.items) (map tree c.push_object.new.list.items)
    c.loop-object-test.true c.object-item.is c.loop-object.invariant c.in_ok-push_object.ensures
