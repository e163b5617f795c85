use Rattle.std.proofs.Common.{◌≡◌, ◌∷◌, ◌+◌, ◌≤◌, length}
use Rattle.std.specs.Option.{option_map_or}
use Rattle.label_certificate.specs.LabelText.{labels_from, labels_of_text}
use Rattle.label_certificate.specs.LineView.{parts_left}
use Rattle.label_certificate.proofs.LinesFrom.{behind_labels}
use Rattle.label_certificate.proofs.reading.read_lines.Given as goal

-- the labels before are read, and no line was counted for which no byte stood
abbrev pub invariant-loop-behind : goal.invariant-loop-behind
invariant-loop-behind l =
    (behind_labels l.entries.items (labels_from l.plan l.number l.least (l.line ∷ parts_left 10 l.behind)) ≡ labels_of_text l.plan l.fn.text)
    × (l.number + option_map_or (λ rest. length rest.now + 1) l.behind 0 ≤ length l.fn.text + 1)

abbrev pub decreases-loop-behind : goal.decreases-loop-behind
decreases-loop-behind l = option_map_or (λ rest. length rest.now + 1) l.behind 0
