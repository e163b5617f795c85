use Rattle.std.proofs.Common.{◌≡◌, ◌++◌, flat_map, map, take}
use Rattle.flow_changes.specs.Shown.{shown}
use Rattle.flow_changes.specs.Singles.{right_facts}
use Rattle.flow_changes.proofs.rights.push_rights.Given as goal

-- those of the objects before
abbrev pub invariant-loop-object : goal.invariant-loop-object
invariant-loop-object l =
    map shown l.facts.items ≡ map shown l.initial.facts.items ++ flat_map (right_facts l.who.name.now l.who.plan.now l.who.client l.who.other_plan.now l.who.other) (take l.object-index l.who.plan.now.objects)
