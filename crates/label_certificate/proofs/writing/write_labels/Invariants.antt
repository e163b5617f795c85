use Rattle.std.proofs.Common.{◌≡◌, ◌++◌, drop}
use Rattle.label_certificate.specs.LabelText.{text_of_labels}
use Rattle.label_certificate.proofs.writing.write_labels.Given as goal

-- the labels before are written, and the texts of those that follow are put behind them
abbrev pub invariant-loop-cell : goal.invariant-loop-cell
invariant-loop-cell l = l.text.items ++ text_of_labels l.plan (drop l.cell-index l.cell-items) ≡ text_of_labels l.plan l.labels
