use Rattle.std.proofs.Common.{◌≡◌, map, take}
use Rattle.flow_page.specs.WayTables as spec
use Rattle.flow_page.proofs.view.tables.way_rows.Given as goal

abbrev pub invariant-loop-number : goal.invariant-loop-number
invariant-loop-number l =
    map spec.way_shown l.list.items
    ≡ map (λ number. spec.way_row l.table.facts.now.ways.now.plan (map (λ row. row.items) l.table.rows.now) (spec.pick_numbered l.told number)) (take l.number-index l.numbers)
