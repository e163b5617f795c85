use Rattle.std.proofs.Common.{◌≡◌, take}
use Rattle.flow_forms.specs.Html.{numbers_in}
use Rattle.flow_forms.proofs.html_form.numbers_in.Given as goal

-- the numbers of the cells before
abbrev pub invariant-loop-cell : goal.invariant-loop-cell
invariant-loop-cell l = l.numbers.items ≡ numbers_in l.plan (take l.cell-index l.cells)
