use Rattle.std.proofs.Common.{◌≡◌, ◌≤◌, ◌*◌, map, take}
use Rattle.flow_page.specs.WayTables as spec
use Rattle.flow_page.proofs.view.tables.cells_reached.Given as goal

abbrev pub invariant-loop-number : goal.invariant-loop-number
invariant-loop-number l =
    (l.cells ≡ spec.cells_reached (map (λ row. row.items) l.table.rows.now) l.told (take l.number-index l.numbers)) × (l.cells ≤ l.number-index * 2048)
