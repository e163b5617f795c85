use Rattle.std.proofs.Common.{◌≡◌, string_bytes, take}
use Rattle.meter_server.specs.Noticing as spec
use Rattle.meter_server.proofs.noticing.client_names.Given as goal

-- the names of the clients so far
abbrev pub invariant-loop-place : goal.invariant-loop-place
invariant-loop-place l = string_bytes l.names ≡ spec.client_names (take l.place l.plan.clients)
