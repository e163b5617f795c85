use Rattle.std.proofs.Common.{◌≡◌, map}
use Rattle.std.specs.List.{range_with_len}
use Rattle.flow_page.specs.Objects as spec
use Rattle.flow_page.proofs.view.held.held_by_clients.Given as goal

abbrev pub invariant-loop-client : goal.invariant-loop-client
invariant-loop-client l = map spec.held_shown l.held.items ≡ map (spec.held_of l.plan l.object) (range_with_len 0 l.client)
