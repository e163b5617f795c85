use Rattle.std.proofs.Common.{◌≡◌, take}
use Rattle.label_certificate.specs.Least.{labels_of_sets}
use Rattle.label_certificate.proofs.least.entries_from.Given as goal

abbrev pub invariant-loop-number : goal.invariant-loop-number
invariant-loop-number l = l.entries.items ≡ labels_of_sets (take l.number l.cells) (take l.number l.influence) (take l.number l.learn)
