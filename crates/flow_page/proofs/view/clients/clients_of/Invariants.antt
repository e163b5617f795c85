use Rattle.std.proofs.Common.{◌≡◌, ◌≤◌, ◌*◌, map}
use Rattle.std.specs.List.{range_with_len}
use Rattle.flow_page.specs.Clients.{client_row, client_shown, size_of, total_of}
use Rattle.flow_page.specs.Marks.{told}
use Rattle.flow_page.proofs.view.clients.clients_of.Given as goal

abbrev pub invariant-loop-client : goal.invariant-loop-client
invariant-loop-client l =
    (map client_shown l.rows.items ≡ map (client_row (told l.facts)) (range_with_len 0 l.client))
    × (l.total ≡ total_of l.rows.items) × (size_of l.total ≤ l.client * 12288)
