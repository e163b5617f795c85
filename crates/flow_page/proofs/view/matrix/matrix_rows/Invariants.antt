use Rattle.std.proofs.Common.{◌≡◌, map}
use Rattle.std.specs.List.{range_with_len}
use Rattle.flow_page.specs.Marks.{told}
use Rattle.flow_page.specs.Marked as spec
use Rattle.flow_page.proofs.view.matrix.matrix_rows.Given as goal

abbrev pub invariant-loop-row : goal.invariant-loop-row
invariant-loop-row l = map spec.row_shown l.list.items ≡ map (spec.matrix_row (told l.table.facts.now) l.linked (map (λ row. row.items) l.table.rows.now)) (range_with_len 0 l.row)
