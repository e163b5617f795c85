use Rattle.std.proofs.Common.{◌≡◌, map, take}
use Rattle.flow_page.specs.WayTables as spec
use Rattle.flow_page.proofs.view.tables.group_rows.Given as goal

abbrev pub invariant-loop-group : goal.invariant-loop-group
invariant-loop-group l =
    map spec.group_shown l.groups.items
    ≡ map (spec.group_of l.table.facts.now.ways.now.plan (map (λ row. row.items) l.table.rows.now) l.told l.counted) (map (λ group. group.items) (take l.group-index l.numbers))
