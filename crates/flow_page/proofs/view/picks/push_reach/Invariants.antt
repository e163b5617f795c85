use Rattle.std.proofs.Common.{◌≡◌, ◌++◌, flat_map, map}
use Rattle.std.specs.List.{range_with_len}
use Rattle.flow_page.specs.Marks.{told}
use Rattle.flow_page.specs.WayTables as spec
use Rattle.flow_page.proofs.view.picks.push_reach.Given as goal

abbrev pub invariant-loop-row : goal.invariant-loop-row
invariant-loop-row l =
    l.list.items ≡ l.initial.list.items ++ flat_map (spec.row_picks (told l.table.facts.now) l.sort (map (λ row. row.items) l.table.rows.now) l.reach l.client) (range_with_len 0 l.row)
