use Rattle.std.proofs.Common.{◌≡◌, ◌++◌, filter, map, not, take}
use Rattle.meter_theory.specs.Plan.{is_cell}
use Rattle.flow_changes.specs.Facts.{HasCell}
use Rattle.flow_changes.specs.Shown.{shown}
use Rattle.flow_changes.proofs.cells.push_cells.Given as goal

-- those of the cells before
abbrev pub invariant-loop-cell : goal.invariant-loop-cell
invariant-loop-cell l = map shown l.facts.items ≡ map shown l.initial.facts.items ++ map HasCell (filter (λ x. not (is_cell l.other_plan x)) (take l.cell-index l.cells))
