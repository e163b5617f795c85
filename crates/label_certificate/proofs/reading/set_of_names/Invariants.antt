use Rattle.std.proofs.Common.{◌≡◌, ◌+◌, length, option_map}
use Rattle.std.specs.Option.{option_map_or}
use Rattle.label_certificate.specs.LabelLine.{names_of}
use Rattle.label_certificate.specs.LineView.{parts_left}
use Rattle.label_certificate.specs.Members.{places_of}
use Rattle.label_certificate.specs.ReadingView.{set_of}
use Rattle.label_certificate.proofs.Gathered.{gathered}
use Rattle.label_certificate.proofs.reading.set_of_names.Given as goal

-- the names before have made the set, and the places of those that follow are added to it
abbrev pub invariant-loop-left : goal.invariant-loop-left
invariant-loop-left l = gathered l.set l.rising l.least (places_of l.plan (parts_left 44 l.left)) ≡ option_map set_of (places_of l.plan (names_of l.fn.text))

abbrev pub decreases-loop-left : goal.decreases-loop-left
decreases-loop-left l = option_map_or (λ rest. length rest.now + 1) l.left 0
