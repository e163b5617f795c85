use Rattle.std.proofs.Common.{length}
use Rattle.acse_association.proofs.Kept.{Reads}
use Rattle.acse_association.proofs.fields.Aarq.of_fields.Given as goal

abbrev pub invariant-loop-rest : goal.invariant-loop-rest
invariant-loop-rest l = Reads l.fields l.aarq l.rest

abbrev pub decreases-loop-rest : goal.decreases-loop-rest
decreases-loop-rest l = length l.rest
