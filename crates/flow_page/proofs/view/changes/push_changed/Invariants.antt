use Rattle.std.proofs.Common.{◌≡◌, ◌++◌, map, take}
use Rattle.flow_changes.specs.Shown.{shown}
use Rattle.flow_page.specs.Changes.{changed, changed_shown}
use Rattle.flow_page.proofs.view.changes.push_changed.Given as goal

-- the facts before are there
abbrev pub invariant-loop-fact : goal.invariant-loop-fact
invariant-loop-fact l = map changed_shown l.changed.items ≡ map changed_shown l.initial.changed.items ++ map (changed l.kind l.change) (map shown (take l.fact-index l.facts))
