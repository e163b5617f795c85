use Rattle.std.proofs.Common.{length}
use Rattle.acse_association.proofs.Differences.{SameSoFar}
use Rattle.acse_association.proofs.password.differences.Given as goal

abbrev pub invariant-loop-x : goal.invariant-loop-x
invariant-loop-x l = SameSoFar l.differences (length l.yielded) l.given l.password
