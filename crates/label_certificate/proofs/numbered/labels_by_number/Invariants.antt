use Rattle.std.proofs.Common.{◌≡◌, map, take}
use Rattle.meter_theory.specs.Labels.{label_at}
use Rattle.meter_theory.specs.Plan.{cells}
use Rattle.label_certificate.proofs.numbered.labels_by_number.Given as goal

abbrev pub invariant-loop-entry : goal.invariant-loop-entry
invariant-loop-entry l = l.found.items ≡ map (label_at (take l.entry-index l.entries)) (cells l.plan)
