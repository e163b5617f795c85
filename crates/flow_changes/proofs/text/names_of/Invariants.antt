use Rattle.std.proofs.Common.{◌≡◌, ◌++◌, ◌-◌, flat_map, length}
use Rattle.meter_theory.specs.Labels.{has}
use Rattle.flow_changes.specs.Facts.{numbered}
use Rattle.flow_changes.proofs.Named.{name_if, numbered_from}
use Rattle.flow_changes.proofs.text.names_of.Given as goal

-- the names that follow are to be put behind
abbrev pub invariant-loop-client : goal.invariant-loop-client
invariant-loop-client l =
    l.names.items ++ flat_map (name_if (λ c. has l.set c.0)) (numbered_from l.plan l.place) ≡ flat_map (name_if (λ c. has l.set c.0)) (numbered l.plan)

abbrev pub decreases-loop-client : goal.decreases-loop-client
decreases-loop-client l = length l.plan.clients - l.place
