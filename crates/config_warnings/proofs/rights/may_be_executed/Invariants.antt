use Rattle.std.proofs.Common.{◌≡◌, false}
use Rattle.std.specs.List.{list_any, range_with_len}
use Rattle.config_warnings.specs.Found.{may_execute}
use Rattle.config_warnings.proofs.rights.may_be_executed.Given as goal

abbrev pub invariant-loop-client : goal.invariant-loop-client
invariant-loop-client l = list_any (may_execute l.plan l.table) (range_with_len 0 l.client) ≡ false
