use Rattle.std.proofs.Common.{◌≡◌, length, take}
use Rattle.meter_theory.specs.Plan.{cells}
use Rattle.label_certificate.specs.Granted.{AreJoined, by_clients}
use Rattle.label_certificate.proofs.joining.join.Given as goal

abbrev pub invariant-loop-cell : goal.invariant-loop-cell
invariant-loop-cell l = record {
  size : length l.labels ≡ length l.initial.labels;
  joined : length l.initial.labels ≡ length (cells l.object.plan) → AreJoined l.object.plan (by_clients l.clients (take l.cell-index l.changed)) l.initial.labels l.labels;
}
