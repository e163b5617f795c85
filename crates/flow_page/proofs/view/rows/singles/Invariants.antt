use Rattle.std.proofs.Common.{◌≡◌, map}
use Rattle.flow_page.specs.Rows as spec
use Rattle.flow_page.proofs.view.rows.singles.Given as goal

abbrev pub invariant-loop-number : goal.invariant-loop-number
invariant-loop-number l = map (λ row. row.items) l.rows.items ≡ spec.singles l.number
