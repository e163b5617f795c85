use Rattle.std.proofs.Common.{◌≡◌}
use Rattle.std.specs.List.{filter, range_with_len}
use Rattle.meter_theory.specs.Labels.{nobody}
use Rattle.label_certificate.specs.Members.{with_clients}
use Rattle.flow_checker.specs.Failures.{is_beyond}
use Rattle.flow_checker.proofs.sets.beyond.Given as goal

abbrev pub invariant-loop-client : goal.invariant-loop-client
invariant-loop-client l = l.found ≡ with_clients nobody (filter (is_beyond l.set l.other) (range_with_len 0 l.client))
