use Rattle.std.proofs.Common.{◌≡◌, map, take}
use Rattle.flow_page.specs.Objects.{object_at}
use Rattle.flow_page.proofs.view.objects.names_of.Given as goal

abbrev pub invariant-loop-number : goal.invariant-loop-number
invariant-loop-number l = l.names.items ≡ map (λ number. (object_at l.plan number).name) (take l.number-index l.row)
