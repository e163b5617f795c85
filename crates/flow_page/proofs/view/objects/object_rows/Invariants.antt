use Rattle.std.proofs.Common.{◌≡◌, map, take}
use Rattle.flow_page.specs.Objects.{object_row, object_shown}
use Rattle.flow_page.proofs.view.objects.object_rows.Given as goal

abbrev pub invariant-loop-row : goal.invariant-loop-row
invariant-loop-row l = map object_shown l.list.items ≡ map (object_row l.plan) (map (λ row. row.items) (take l.row-index l.rows))
