use Rattle.std.proofs.Common.{◌≡◌, flat_map}
use Rattle.std.specs.List.{range_with_len}
use Rattle.flow_page.specs.Marks.{told}
use Rattle.flow_page.specs.Rows.{client_keys}
use Rattle.flow_page.proofs.view.rows.mark_keys.Given as goal

abbrev pub invariant-loop-client : goal.invariant-loop-client
invariant-loop-client l = l.keys.items ≡ flat_map (client_keys (told l.facts) l.cell) (range_with_len 0 l.client)
