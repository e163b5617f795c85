use Rattle.std.proofs.Common.{◌≡◌, ◌<◌, ℕ, false}
use Rattle.std.specs.Str.{bytes_eq}
use Rattle.value_text.specs.Texts.{cell_text}
use Rattle.flow_edges.specs.Table.{cell_at}
use Rattle.flow_forms.proofs.why.cell_printed.Given as goal

abbrev pub invariant-loop-number : goal.invariant-loop-number
invariant-loop-number l = (j : ℕ) → j < l.number → bytes_eq (cell_text (cell_at l.cell-items j)) l.text ≡ false
