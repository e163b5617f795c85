use Rattle.std.proofs.Common.{◌≡◌, map, take}
use Rattle.meter_theory.specs.Labels.{nobody, or_else}
use Rattle.label_certificate.proofs.numbered.labels_or_nobody.Given as goal

abbrev pub invariant-loop-label : goal.invariant-loop-label
invariant-loop-label l = l.given.items ≡ map (or_else (record { influence = nobody; learn = nobody })) (take l.label-index l.found)
