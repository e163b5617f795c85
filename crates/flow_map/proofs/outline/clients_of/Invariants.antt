use Rattle.std.proofs.Common.{◌≡◌, ◌-◌, length, take}
use Rattle.flow_map.proofs.outline.clients_of.Given as goal

-- the clients before
abbrev pub invariant-loop-client : goal.invariant-loop-client
invariant-loop-client l = l.list.items ≡ take l.place l.plan.clients

abbrev pub decreases-loop-client : goal.decreases-loop-client
decreases-loop-client l = length l.plan.clients - l.place
