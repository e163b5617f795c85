use Rattle.std.proofs.Common.{◌≡◌, map, take}
use Rattle.meter_theory.specs.Plan.{client_named}
use Rattle.flow_changes.proofs.differences.namesakes.Given as goal

-- those of the clients before
abbrev pub invariant-loop-client : goal.invariant-loop-client
invariant-loop-client l = l.others.items ≡ map (λ client. client_named l.other client.name) (take l.client l.plan.clients)
