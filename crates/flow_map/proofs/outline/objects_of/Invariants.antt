use Rattle.std.proofs.Common.{◌≡◌, take}
use Rattle.flow_map.proofs.outline.objects_of.Given as goal

-- the objects before
abbrev pub invariant-loop-object : goal.invariant-loop-object
invariant-loop-object l = l.list.items ≡ take l.object-index l.plan.objects
