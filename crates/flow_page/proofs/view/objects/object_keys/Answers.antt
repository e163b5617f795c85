use Rattle.flow_map.proofs.Ranges.{viewed-next}
use Rattle.flow_page.specs.Objects.{object_facts, object_key}
use Rattle.flow_page.proofs.view.objects.object_keys.Goals as goal

pub loop-number-preserved : goal.loop-number-preserved
loop-number-preserved c =
    viewed-next object_facts (object_key c.args.plan.now) c.loop-number.number _ _ c.in_ok-object_key.field-0 c.loop-number.invariant c.in_ok-object_key.ensures c.in_ok-push.ensures.items
