use Rattle.std.proofs.Common.{◌≡◌, flat_map, map}
use Rattle.std.specs.List.{range_with_len}
use Rattle.flow_page.specs.Marks.{told}
use Rattle.flow_page.specs.Marked as spec
use Rattle.flow_page.proofs.view.matrix.marks_of.Given as goal

abbrev pub invariant-loop-client : goal.invariant-loop-client
invariant-loop-client l =
    map spec.mark_shown l.marks.items ≡ flat_map (spec.client_marks (told l.table.facts.now) l.linked (map (λ row. row.items) l.table.rows.now) l.row) (range_with_len 0 l.client)
