use Rattle.std.proofs.Common.{◌≡◌, ◌++◌, flat_map}
use Rattle.std.specs.List.{range_with_len}
use Rattle.flow_checker.specs.Clauses.{failures_at}
use Rattle.flow_checker.proofs.case.Case.push_clause.Given as goal

abbrev pub invariant-loop-number : goal.invariant-loop-number
invariant-loop-number l = l.failures.items ≡ l.initial.failures.items ++ flat_map (failures_at l.self l.clause) (range_with_len 0 l.number)
