-- What entries that are lent stand for.
use Rattle.std.specs.Prelude.{ℕ, List, ◌++◌, map, Option, Some, None}
use Rattle.cosem_data.specs.Tree.{Tree}
use Rattle.cosem_data.specs.View.{tree}
use Rattle.cosem_data.specs.declared.data.Data.{Data}
use Rattle.meter_theory.specs.Selection.{places_between}
use Rattle.meter_theory.specs.Times.{parts_of}
use Rattle.meter_theory.specs.Value.{array_of, structure_of}

-- a row as it is shown: the columns from one place to another, or whole: own profile
abbrev pub shown : Option (ℕ × ℕ) → Data → Tree
shown (Some places) row = structure_of (places_between places.0 places.1 (parts_of (tree row)))
shown None row = tree row

-- the array of the rows of two slices, the older ones and those behind: own profile
abbrev pub entries_shown : Option (ℕ × ℕ) → List Data → List Data → Tree
entries_shown columns older newer = array_of (map (shown columns) older ++ map (shown columns) newer)
