use Rattle.std.proofs.Common.{◌≡◌, map}
use Rattle.std.specs.List.{range_with_len}
use Rattle.flow_page.specs.Keys.{row_facts}
use Rattle.flow_page.specs.Marks.{told}
use Rattle.flow_page.specs.Rows.{row_key}
use Rattle.flow_page.proofs.view.rows.row_keys.Given as goal

abbrev pub invariant-loop-cell : goal.invariant-loop-cell
invariant-loop-cell l = map row_facts l.keys.items ≡ map (row_key (told l.facts)) (range_with_len 0 l.cell)
