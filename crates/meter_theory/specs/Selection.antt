-- Selective access to a profile's buffer by entry (IEC 62056-6-2, Profile generic, entry_descriptor).
use Rattle.std.specs.Prelude.{ℕ, ◌-◌, ◌==◌, cond, List, [], ◌∷◌, length, take, drop, map, Option, Some, None}
use Rattle.cosem_data.specs.Tree.{Tree, double_long_unsigned, long_unsigned}
use Rattle.meter_theory.specs.Times.{parts_of}
use Rattle.meter_theory.specs.Value.{array_of, structure_of, elements}

-- the rows from one place to another, and of each the columns from one place to another
pub record EntryDescriptor : Type 0 where
  pub from_entry : ℕ
  pub to_entry : ℕ
  pub from_selected_value : ℕ
  pub to_selected_value : ℕ

abbrev pub as_double_long_unsigned : Tree → Option ℕ
as_double_long_unsigned (double_long_unsigned n) = Some n
as_double_long_unsigned _ = None

abbrev pub as_long_unsigned : Tree → Option ℕ
as_long_unsigned (long_unsigned n) = Some n
as_long_unsigned _ = None

abbrev pub descriptor_from : Option ℕ → Option ℕ → Option ℕ → Option ℕ → Option EntryDescriptor
descriptor_from (Some from) (Some to) (Some first) (Some last) =
    Some (record { from_entry = from; to_entry = to; from_selected_value = first; to_selected_value = last })
descriptor_from _ _ _ _ = None

abbrev pub descriptor_of_parts : List Tree → Option EntryDescriptor
descriptor_of_parts (from ∷ to ∷ first ∷ last ∷ []) =
    descriptor_from (as_double_long_unsigned from) (as_double_long_unsigned to) (as_long_unsigned first) (as_long_unsigned last)
descriptor_of_parts _ = None

-- a structure of exactly two double-long-unsigned and two long-unsigned
abbrev pub descriptor_of : Tree → Option EntryDescriptor
descriptor_of v = descriptor_of_parts (parts_of v)

-- the places from one to another, counted from 1; a 0 in "from" is read as 1 (own profile), a 0 in "to" is the last,
-- and what lies past the end is dropped
abbrev pub places_between : {A : Type 0} → ℕ → ℕ → List A → List A
places_between from to xs = drop (from - 1) (take (cond (to == 0) (length xs) to) xs)

-- the columns of a row; none are an empty structure (own profile)
abbrev pub columns_of : EntryDescriptor → Tree → Tree
columns_of d row = structure_of (places_between d.from_selected_value d.to_selected_value (parts_of row))

-- The rows and columns of a buffer that an entry descriptor asks for; no rows are an empty array (own profile).
abbrev pub entries_of : EntryDescriptor → Tree → Tree
entries_of d buffer = array_of (map (columns_of d) (places_between d.from_entry d.to_entry (elements buffer)))
