use Rattle.std.proofs.Common.{◌≡◌, ◌++◌, ◌-◌, drop, length, string_bytes}
use Rattle.label_certificate.specs.LabelLine.{names_text}
use Rattle.label_certificate.specs.Members.{names_from, names_in_set}
use Rattle.label_certificate.proofs.Written.{continued}
use Rattle.verdict.proofs.failures.names_of.Given as goal

-- the names before are written, and those that follow are put behind them
abbrev pub invariant-loop-client : goal.invariant-loop-client
invariant-loop-client l = string_bytes l.names ++ continued l.some (names_from l.set l.place (drop l.place l.plan.clients)) ≡ names_text (names_in_set l.plan l.set)

abbrev pub decreases-loop-client : goal.decreases-loop-client
decreases-loop-client l = length l.plan.clients - l.place
