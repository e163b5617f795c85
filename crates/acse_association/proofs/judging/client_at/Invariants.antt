use Rattle.std.proofs.Common.{◌≡◌}
use Rattle.acse_association.specs.Judging.{client_at}
use Rattle.acse_association.proofs.Clients.{from_place}
use Rattle.acse_association.proofs.judging.client_at.Given as goal

abbrev pub invariant-loop-place : goal.invariant-loop-place
invariant-loop-place l = client_at l.plan l.source ≡ from_place l.plan.clients l.source l.place
