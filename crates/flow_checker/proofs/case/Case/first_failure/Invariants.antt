use Rattle.std.proofs.Common.{◌≡◌, [], flat_map, take}
use Rattle.flow_checker.specs.Clauses.{failures_of}
use Rattle.flow_checker.proofs.case.Case.first_failure.Given as goal

abbrev pub invariant-loop-clause : goal.invariant-loop-clause
invariant-loop-clause l = flat_map (failures_of l.self) (take l.clause-index l.clause-items) ≡ []
