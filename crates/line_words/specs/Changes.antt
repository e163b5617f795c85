-- What changed in a meter, in words: lines for each cell that holds another value than before (own profile). Texts are lists of bytes.
use Rattle.std.specs.Prelude.{ℕ, ◌==◌, ◌+◌, ◌-◌, Bool, true, false, ◌&&◌, List, [], ◌∷◌, ◌++◌, codes, drop, flat_map, length, map, if◌then◌else◌}
use Rattle.std.specs.Fmt.{decimal}
use Rattle.cosem_data.specs.Tree.{Tree}
use Rattle.cosem_data.specs.Equal.{same_tree}
use Rattle.cosem_data.specs.declared.cell.CellRef.{CellRef}
use Rattle.meter_theory.specs.Plan.{Plan, cells}
use Rattle.meter_theory.specs.State.{State, value}
use Rattle.meter_theory.specs.Value.{elements}
use Rattle.value_text.specs.Texts.{cell_text}
use Rattle.value_words.specs.Words.{value_words}
use Rattle.line_words.specs.Lines.{cut}

-- the cells of a plan with their values in a state: what is told of it. An inner clock isn't among them (own profile)
abbrev pub told_part : Plan → State → State
told_part P s = map (λ x. (x, value s x)) (cells P)

-- `  CELL` and these words (own profile)
unfoldable pub change_line : CellRef → List ℕ → List ℕ
change_line x words = cut (codes "  " ++ (cell_text x ++ (words ++ 10 ∷ [])))

-- Rows of a profile

-- the rows begin with these
abbrev pub begins : List Tree → List Tree → Bool
begins [] newer = true
begins (row ∷ older) [] = false
begins (row ∷ older) (other ∷ newer) = same_tree other row && begins older newer

-- how many of the older rows went: so few that the newer ones begin with the others (own profile)
abbrev pub lost : List Tree → List Tree → ℕ
lost [] newer = 0
lost (row ∷ older) newer = if begins (row ∷ older) newer then 0 else lost older newer + 1

-- the line of rows that came (own profile)
abbrev pub came_line : CellRef → List Tree → List ℕ
came_line x [] = []
came_line x (row ∷ []) = change_line x (codes " got the row " ++ value_words row)
came_line x (row ∷ next ∷ rows) = change_line x (codes " got " ++ (decimal (length (row ∷ next ∷ rows)) ++ codes " rows"))

-- the line of so many rows that went, of these (own profile)
abbrev pub gone_line : CellRef → ℕ → List Tree → List ℕ
gone_line x count [] = []
gone_line x count (row ∷ older) =
    if count == 0 then []
    else if count == 1 then change_line x (codes " lost the row " ++ value_words row)
    else change_line x (codes " lost " ++ (decimal count ++ codes " rows"))

-- those of rows that are others than before (own profile)
unfoldable pub row_lines : CellRef → List Tree → List Tree → List ℕ
row_lines x older newer = came_line x (drop (length older - lost older newer) newer) ++ gone_line x (lost older newer) older

-- the buffer of a profile (IEC 62056-6-2, Profile generic)
abbrev pub is_buffer : CellRef → Bool
is_buffer x = (x.class_id == 7) && (x.index == 2)

-- the lines of a cell that holds another value than before: of a buffer the rows, of any other the value (own profile)
unfoldable pub changes_of : CellRef → Tree → Tree → List ℕ
changes_of x before now = if is_buffer x then row_lines x (elements before) (elements now) else change_line x (codes " is now " ++ value_words now)

-- those lines, where the value isn't the one before (own profile)
unfoldable pub change_of : CellRef → Tree → Tree → List ℕ
change_of x before now = if same_tree before now then [] else changes_of x before now

-- such lines for each cell whose value isn't the one before, in plan order (own profile)
unfoldable pub change_lines : State → State → List ℕ
change_lines before after = flat_map (λ e. change_of e.0 (value before e.0) e.1) after
