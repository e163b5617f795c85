use Rattle.std.proofs.Common.{◌≡◌, ◌++◌, ◌-◌, flat_map, length, map}
use Rattle.std.specs.List.{list_any}
use Rattle.flow_changes.specs.Changes.{lacks}
use Rattle.flow_changes.specs.Facts.{numbered, own_facts}
use Rattle.flow_changes.specs.Shown.{shown}
use Rattle.flow_changes.proofs.Gains.{AreOwners, lacked_of}
use Rattle.flow_changes.proofs.Named.{numbered_from}
use Rattle.flow_changes.proofs.owned.push_owned.Given as goal

-- the facts of the clients that follow are to be put behind, and those before are told
abbrev pub invariant-loop-client : goal.invariant-loop-client
invariant-loop-client l =
    (map shown l.facts.items ++ flat_map (lacked_of l.mine l.theirs l.fn.kind) (numbered_from l.mine.plan l.place)
    ≡ map shown l.initial.facts.items ++ flat_map (lacked_of l.mine l.theirs l.fn.kind) (numbered l.mine.plan))
    × AreOwners l.mine.plan (λ n. list_any (lacks l.theirs l.mine l.fn.kind) (own_facts l.mine l.theirs l.fn.kind n)) l.place l.owners

abbrev pub decreases-loop-client : goal.decreases-loop-client
decreases-loop-client l = length l.mine.plan.clients - l.place
