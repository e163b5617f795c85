use Rattle.std.proofs.Common.{◌≡◌, ◌++◌, ◌+◌, ◌-◌, ◌≤◌, map, filter}
use Rattle.std.specs.List.{range_with_len}
use Rattle.cosem_data.specs.Cells.{cell}
use Rattle.flow_changes.specs.Facts.{Holds}
use Rattle.flow_changes.specs.Shown.{shown}
use Rattle.flow_changes.specs.Singles.{access_facts, is_new_right}
use Rattle.flow_changes.proofs.rights.push_access.Given as goal

-- those of the members that follow are to be put behind
abbrev pub invariant-loop-index : goal.invariant-loop-index
invariant-loop-index l =
    (map shown l.facts.items
    ++ map (Holds l.who.name.now l.access) (filter (is_new_right l.access l.instance.plan l.who.client l.who.other_plan.now l.who.other) (map (cell l.class_id l.name) (range_with_len (l.index + 1) (l.highest - l.index))))
    ≡ map shown l.initial.facts.items ++ access_facts l.who.name.now l.access l.instance.plan l.who.client l.who.other_plan.now l.who.other l.fn.object)
    × (l.index ≤ l.highest)

abbrev pub decreases-loop-index : goal.decreases-loop-index
decreases-loop-index l = l.highest - l.index
