use Rattle.std.proofs.Common.{◌≡◌, map}
use Rattle.std.specs.List.{range_with_len}
use Rattle.flow_page.specs.Objects.{object_facts, object_key}
use Rattle.flow_page.proofs.view.objects.object_keys.Given as goal

abbrev pub invariant-loop-number : goal.invariant-loop-number
invariant-loop-number l = map object_facts l.keys.items ≡ map (object_key l.plan) (range_with_len 0 l.number)
