use Rattle.std.proofs.Common.{◌≡◌, map, string_bytes, take}
use Rattle.flow_picture.proofs.drawing.picture.client_names.Given as goal

abbrev pub invariant-loop-client : goal.invariant-loop-client
invariant-loop-client l = map string_bytes l.names.items ≡ map (λ client. client.name) (take l.client l.plan.clients)
