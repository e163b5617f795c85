-- What a capture drops of a buffer, and how a capture is taken back (own profile).
use Rattle.std.specs.Prelude.{ℕ, ◌==◌, List, [], ◌∷◌, ◌++◌, length, take, option_to_list, slice_get, Option, None, if◌then◌else◌}
use Rattle.cosem_data.specs.Tree.{Tree, array, parts}
use Rattle.meter_theory.specs.Value.{array_of, elements}

-- the row that the next capture drops: the oldest of a buffer that has all its entries
abbrev pub dropped : (entries : ℕ) → (buffer : Tree) → Option Tree
dropped entries buffer = if length (elements buffer) == entries then slice_get (elements buffer) 0 else None

-- the rows without the newest, and with the dropped row, if any, in front; where there is no newest, there are none
abbrev pub rows_before : (dropped : Option Tree) → (rows : List Tree) → List Tree
rows_before dropped [] = []
rows_before dropped (row ∷ rows) = option_to_list dropped ++ take (length rows) (row ∷ rows)

-- the buffer without its newest row, and with the dropped row, if any, in front; what is no array stays
abbrev pub buffer_before : (dropped : Option Tree) → (buffer : Tree) → Tree
buffer_before dropped (array rows) = array_of (rows_before dropped (parts rows))
buffer_before dropped buffer = buffer
