use Rattle.std.proofs.Common.{◌≡◌, flat_map, map}
use Rattle.std.specs.List.{range_with_len}
use Rattle.flow_page.specs.Marks.{told}
use Rattle.flow_page.specs.WayTables as spec
use Rattle.flow_page.proofs.view.picks.picks.Given as goal

abbrev pub invariant-loop-client : goal.invariant-loop-client
invariant-loop-client l = l.list.items ≡ flat_map (spec.client_picks (told l.table.facts.now) l.sort (map (λ row. row.items) l.table.rows.now)) (range_with_len 0 l.client)
