-- Names, and their numbers sorted by name.
use Rattle.std.specs.Prelude.{◌≡◌, ◌≢◌, ◌<◌, ◌≤◌, ℕ, List, [], length, slice_index}
use Rattle.std.specs.List.{AllByRecursion, slice_index_or}
use Rattle.std.specs.Ordering.{nat_cmp}
use Rattle.std.specs.Cmp.Lexicographic.{slice_cmp}
use Rattle.std.specs.Slice.Scan.{big_endian}
use Rattle.std.specs.declared.cmp.Ordering.{Ordering}
use Rattle.std.specs.declared.cmp.Ordering.TheVariants.{Less}
use Rattle.cosem_data.specs.declared.name.LogicalName.{LogicalName}

-- the name of this number, one of no bytes past the last: own profile
abbrev pub name_at : List LogicalName → ℕ → LogicalName
name_at names k = slice_index_or names k (record { 0 = [] })

-- names by their bytes: own profile
abbrev pub order : LogicalName → LogicalName → Ordering
order a b = slice_cmp nat_cmp a.0 b.0

-- the bytes of a name as one number, the first the highest, so that names stand in the order of these: own profile
abbrev pub worth : LogicalName → ℕ
worth name = big_endian 0 name.0

-- a name has six bytes: own profile
abbrev pub IsSixBytes : LogicalName → Type 0
IsSixBytes name = (length name.0 ≡ 6) × AllByRecursion (λ b. b < 256) name.0

-- the name whose number stands at this place: own profile
abbrev pub entry : List LogicalName → List ℕ → ℕ → LogicalName
entry names numbers i = name_at names (slice_index numbers i)

-- numbers of names, sorted by name: own profile
pub record IsSorted (names : List LogicalName) (numbers : List ℕ) : Type 0 where
  pub small : length numbers ≤ 65536
  pub within : (i : ℕ) → i < length numbers → slice_index numbers i < length names
  pub sorted : (i j : ℕ) → i < j → j < length numbers → order (entry names numbers i) (entry names numbers j) ≡ Less

-- of the names below this number, those that stand below under no lower number: own profile
pub record IsIndexOf (names : List LogicalName) (numbers : List ℕ) (known : ℕ) : Type 0 where
  pub few : length numbers ≤ known
  pub below : (i : ℕ) → i < length numbers → slice_index numbers i < known
  pub first : (i : ℕ) → i < length numbers → (k : ℕ) → k < slice_index numbers i → name_at names k ≢ entry names numbers i
  pub sorted : IsSorted names numbers
  pub complete : (k : ℕ) → k < known → (i : ℕ) × (i < length numbers) × (entry names numbers i ≡ name_at names k)
