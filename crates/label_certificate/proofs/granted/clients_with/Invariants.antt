use Rattle.std.proofs.Common.{◌≡◌, ℕ, nat_lt}
use Rattle.std.specs.Prelude.{◌&&◌}
use Rattle.meter_theory.specs.Labels.{has}
use Rattle.meter_theory.specs.Rights.{is_granted}
use Rattle.label_certificate.proofs.granted.clients_with.Given as goal

abbrev pub invariant-loop-client : goal.invariant-loop-client
invariant-loop-client l = (c : ℕ) → has l.clients c ≡ (nat_lt c l.client && is_granted l.instance.plan c l.access l.instance.name l.index)
