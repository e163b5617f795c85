use Rattle.std.proofs.Common.{◌≡◌, ◌∙◌, None, Some, subst, sym, arith}
use Rattle.std.specs.List.{position_from}
use Rattle.std.specs.Str.{bytes_eq}
use Rattle.flow_map.proofs.Places.{is-first, is-nowhere}
use Rattle.value_text.specs.Texts.{cell_text}
use Rattle.flow_edges.specs.Table.{no_cell}
use Rattle.flow_forms.proofs.why.cell_printed.Goals as goal

pub returns-then-branch : goal.returns-then-branch
returns-then-branch c =
    subst (λ xs. Some c.loop-number.number ≡ position_from (λ x. bytes_eq (cell_text x) c.args.text.now) 0 xs) c.cells-cell-items.ensures
    (is-first (λ x. bytes_eq (cell_text x) c.args.text.now) c.cells-cell-items.result.now c.loop-number.number no_cell c.loop-number-test.true c.loop-number.invariant
    (sym c.in_ok-is_printed.ensures ∙ c.if-branch.true))

pub returns : goal.returns
returns c =
    subst (λ xs. None ≡ position_from (λ x. bytes_eq (cell_text x) c.args.text.now) 0 xs) c.cells-cell-items.ensures
    (is-nowhere (λ x. bytes_eq (cell_text x) c.args.text.now) c.cells-cell-items.result.now no_cell (λ j less. c.loop-number.invariant j (omega (arith, less, c.loop-number-test.false))))
