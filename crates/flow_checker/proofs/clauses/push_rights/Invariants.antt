use Rattle.std.proofs.Common.{◌≡◌, ◌++◌}
use Rattle.flow_checker.specs.Clauses.{rights_of}
use Rattle.flow_checker.proofs.clauses.push_rights.Given as goal

abbrev pub invariant-loop-client : goal.invariant-loop-client
invariant-loop-client l = l.clauses.items ≡ l.initial.clauses.items ++ rights_of l.reach l.client
