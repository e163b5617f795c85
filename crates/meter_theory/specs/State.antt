-- A state of a meter: a finite map from its cells to values.
use Rattle.std.specs.Prelude.{cond, List, [], ◌∷◌, map}
use Rattle.cosem_data.specs.Cells.{same_cell}
use Rattle.cosem_data.specs.declared.cell.CellRef.{CellRef}
use Rattle.cosem_data.specs.Tree.{Tree, null_data}

-- a value for each cell, in plan order
abbrev pub State : Type 0
State = List (CellRef × Tree)

-- the cells of a state
abbrev pub keys : State → List CellRef
keys s = map (λ e. e.0) s

-- the value in a cell; null-data where the state lacks the cell
abbrev pub value : State → CellRef → Tree
value [] x = null_data
value (e ∷ s) x = cond (same_cell e.0 x) e.1 (value s x)

-- the map with v at x, where x is one of its cells
abbrev pub put : State → CellRef → Tree → State
put [] x v = []
put (e ∷ s) x v = cond (same_cell e.0 x) ((e.0, v) ∷ s) (e ∷ put s x v)
