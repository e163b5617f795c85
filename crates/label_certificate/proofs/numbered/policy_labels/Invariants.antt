use Rattle.std.proofs.Common.{◌≡◌, map, take}
use Rattle.meter_theory.specs.Labels.{labelling_of_policy}
use Rattle.label_certificate.proofs.numbered.policy_labels.Given as goal

abbrev pub invariant-loop-cell : goal.invariant-loop-cell
invariant-loop-cell l = l.allowed.items ≡ map (labelling_of_policy l.plan l.policy) (take l.cell-index l.cells)
