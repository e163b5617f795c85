use Rattle.std.proofs.Common.{◌≡◌, map, take}
use Rattle.flow_forms.specs.Listing.{cell_within}
use Rattle.flow_forms.proofs.edges.cell_texts.Given as goal

-- the texts of the cells before
abbrev pub invariant-loop-cell : goal.invariant-loop-cell
invariant-loop-cell l = map (λ text. text.items) l.texts.items ≡ map (cell_within l.before l.behind) (take l.cell-index l.cells)
