use Rattle.std.proofs.Common.{◌≡◌, ◌+◌, length}
use Rattle.std.specs.Option.{option_map_or}
use Rattle.label_certificate.specs.LabelLine.{are_client_names, names_of}
use Rattle.label_certificate.specs.LineView.{parts_left}
use Rattle.label_certificate.proofs.line.are_names.Given as goal

-- the names before are ones that clients may have
abbrev pub invariant-loop-left : goal.invariant-loop-left
invariant-loop-left l = are_client_names (parts_left 44 l.left) ≡ are_client_names (names_of l.fn.text)

abbrev pub decreases-loop-left : goal.decreases-loop-left
decreases-loop-left l = option_map_or (λ rest. length rest.now + 1) l.left 0
