use Rattle.std.proofs.Common.{◌≡◌, ◌++◌, ◌-◌, drop, length}
use Rattle.label_certificate.specs.LabelLine.{names_text}
use Rattle.label_certificate.specs.Members.{names_from, names_in_set}
use Rattle.label_certificate.proofs.Written.{continued}
use Rattle.label_certificate.proofs.writing.push_names.Given as goal

-- the names before are written, and those that follow are put behind them
abbrev pub invariant-loop-client : goal.invariant-loop-client
invariant-loop-client l = l.text.items ++ continued l.some (names_from l.set l.place (drop l.place l.plan.clients)) ≡ l.initial.text.items ++ names_text (names_in_set l.plan l.set)

abbrev pub decreases-loop-client : goal.decreases-loop-client
decreases-loop-client l = length l.plan.clients - l.place
