use Rattle.std.proofs.Common.{◌≡◌, ◌++◌, flat_map}
use Rattle.std.specs.List.{range_with_len}
use Rattle.config_warnings.specs.Found.{client_in}
use Rattle.config_warnings.proofs.finding.push_clients.Given as goal

abbrev pub invariant-loop-client : goal.invariant-loop-client
invariant-loop-client l = l.all.items ≡ l.initial.all.items ++ flat_map (client_in l.plan) (range_with_len 0 l.client)
