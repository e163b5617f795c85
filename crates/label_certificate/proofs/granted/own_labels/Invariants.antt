use Rattle.std.proofs.Common.{◌≡◌, length}
use Rattle.label_certificate.proofs.Joins.{IsOwnTo}
use Rattle.label_certificate.proofs.granted.own_labels.Given as goal

abbrev pub invariant-loop-place : goal.invariant-loop-place
invariant-loop-place l = (length l.labels.items ≡ l.place) × IsOwnTo l.plan l.place l.labels.items
