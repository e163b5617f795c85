use Rattle.std.proofs.Common.{take}
use Rattle.label_certificate.specs.Granted.{AreJoined, may_empty}
use Rattle.label_certificate.proofs.granted.join_writes.Given as goal

abbrev pub invariant-loop-place : goal.invariant-loop-place
invariant-loop-place l = AreJoined l.plan (may_empty l.plan (take l.place l.cells)) l.initial.labels l.labels
