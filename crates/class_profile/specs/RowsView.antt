-- What the rows of a profile stand for, and the places that their ring has.
use Rattle.std.specs.Prelude.{ℕ, ◌≤◌, List, [], map, Option, Some, None}
use Rattle.cosem_data.specs.Tree.{Tree}
use Rattle.cosem_data.specs.View.{tree}
use Rattle.cosem_data.specs.declared.data.Data.{Data}
use Rattle.circular_buffer.specs.Buffer.{Buffer}

-- the rows in a ring, the oldest first, and none where there is no ring yet: own profile
abbrev pub rows_in : Option (Buffer Data) → List Tree
rows_in None = []
rows_in (Some ring) = map tree ring.items

-- there is a ring, of so many places or more: own profile
abbrev pub HasPlaces : ℕ → Option (Buffer Data) → Type 0
HasPlaces places None = ⊥
HasPlaces places (Some ring) = places ≤ ring.capacity
