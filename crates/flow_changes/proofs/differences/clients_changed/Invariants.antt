use Rattle.std.proofs.Common.{◌≡◌, ◌&&◌, ℕ, None, get_or, nat_lt}
use Rattle.meter_theory.specs.Labels.{has}
use Rattle.flow_changes.specs.Differences.{is_changed}
use Rattle.flow_changes.proofs.differences.clients_changed.Given as goal

-- the clients before for which it is so
abbrev pub invariant-loop-client : goal.invariant-loop-client
invariant-loop-client l = (c : ℕ) → has l.clients c ≡ (nat_lt c l.client && is_changed l.change l.reach c (get_or l.others c None) l.pair)
