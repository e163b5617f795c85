-- Class 7, Profile generic, version 1 (IEC 62056-6-2): four cells, the buffer at 2, capture_objects at 3, capture_period at
-- 4 and entries_in_use at 7; sort_method at 5, sort_object at 6 and profile_entries at 8 are fixed, and capture_objects too
-- where there is no menu of them (own profile): then the cell at 3 isn't read, and no operation touches it. Method 1 is reset,
-- and method 2 capture.
use Rattle.std.specs.Prelude.{◌≡◌, ℕ, ◌<◌, List, length, map, Option, option_map, Result, Ok, Some, None, Bool, true, false, not, ◌==◌, ◌&&◌, ◌||◌, nat_le, if◌then◌else◌}
use Rattle.std.specs.List.{All, list_all, list_any}
use Rattle.cosem_data.specs.Tree.{Tree, array, structure, double_long_unsigned, no_trees, parts}
use Rattle.cosem_data.specs.declared.cell.CellRef.{CellRef}
use Rattle.cosem_data.specs.declared.kind.Kind.TheVariants.{Array, DoubleLongUnsigned}
use Rattle.cosem_data.specs.declared.name.LogicalName.{LogicalName}
use Rattle.meter_theory.specs.Menus.{Choice, alternatives, has_menu, capture_objects_value}
use Rattle.meter_theory.specs.Value.{Rule, OfKind, OneOf, meets, counter, structure_of}
use Rattle.meter_theory.specs.Fixed.{name_value, fixed_in}
use Rattle.meter_theory.specs.Plan.{Part, ProfileGeneric}
use Rattle.meter_theory.specs.Steps.{buffer_after, in_use_after}
use Rattle.cosem_class.specs.declared.class.Op.{Op}
use Rattle.cosem_class.specs.declared.class.Op.TheVariants.{Write, Invoke, Remember}
use Rattle.cosem_class.specs.declared.class.ClassFault.{ClassFault}
use Rattle.cosem_class.specs.declared.class.ClassFault.TheVariants.{NoIndex}
use Rattle.cosem_class.specs.Objects.{Cells, put_at, no_cells, value_or_no_index, IsCellWhere}
use Rattle.cosem_class.specs.Judged.{judged, write_fault}

-- what is fixed of an object: its name, the cells that it may capture, the start of its capture_period, and profile_entries
pub record ProfileFixed : Type 0 where
  pub name : LogicalName
  pub captured : Choice (List CellRef)
  pub period : ℕ
  pub entries : ℕ

-- the part of a plan that it is
abbrev pub part_of : ProfileFixed → Part
part_of fixed = ProfileGeneric fixed.captured fixed.period fixed.entries

-- an attribute_index is an integer of eight bits: IEC 62056-6-2, capture_object_definition
abbrev pub HaveAttributeIndexes : List CellRef → Type 0
HaveAttributeIndexes captured = All (λ cell. cell.index < 128) captured

-- four cells: the values at 2, 3, 4 and 7
abbrev pub profile_cells : (buffer objects period in_use : Tree) → Cells
profile_cells buffer objects period in_use = put_at 2 buffer (put_at 3 objects (put_at 4 period (put_at 7 in_use no_cells)))

-- an index with a cell
abbrev pub has_profile_cell : ℕ → Bool
has_profile_cell index = ((index == 2) || (index == 3)) || ((index == 4) || (index == 7))

-- a fixed attribute other than the logical name
abbrev pub is_fixed_index : ProfileFixed → ℕ → Bool
is_fixed_index fixed index = (not (has_menu fixed.captured) && (index == 3)) || ((index == 5) || ((index == 6) || (index == 8)))

-- 1, logical_name, 5, 6 and 8 are fixed, and 3 without a menu, 2, 4 and 7 are cells, and there is no other
abbrev pub profile_reading : ProfileFixed → ℕ → Option Tree → Result Tree ClassFault
profile_reading fixed index cell =
    if index == 1 then Ok (name_value fixed.name)
    else if is_fixed_index fixed index then Ok (fixed_in (part_of fixed) index)
    else value_or_no_index cell

-- an attribute of the class
abbrev pub is_attribute : ℕ → Bool
is_attribute index = nat_le 1 index && nat_le index 8

-- what capture_period may be (own profile)
abbrev pub period_rule : Rule
period_rule = OfKind DoubleLongUnsigned

-- what capture_objects may be, where there is a menu (own profile)
abbrev pub objects_rule : ProfileFixed → Rule
objects_rule fixed = OneOf Array (map capture_objects_value (alternatives fixed.captured))

-- what a write of this index is judged by
abbrev pub profile_rule : ProfileFixed → ℕ → Rule
profile_rule fixed index = if index == 3 then objects_rule fixed else period_rule

-- capture_period, and capture_objects where there is a menu
abbrev pub is_settable : ProfileFixed → ℕ → Bool
is_settable fixed index = (index == 4) || (has_menu fixed.captured && (index == 3))

-- A write of 4 is judged by the kind of capture_period, and one of 3 by the menu; no other attribute is settable, and there
-- are methods 1 and 2.
abbrev pub profile_refusal : ProfileFixed → Op → Tree → Option ClassFault
profile_refusal fixed (Write index) value =
    write_fault (is_settable fixed index) (is_attribute index) (judged (profile_rule fixed index) value)
profile_refusal fixed (Invoke method) argument = if (method == 1) || (method == 2) then None else Some NoIndex
profile_refusal fixed Remember argument = Some NoIndex

-- reset empties the buffer, and no entry is then in use
abbrev pub after_reset : ℕ → Tree
after_reset i = if i == 2 then array no_trees else counter 0

-- capture puts the row behind the buffer, of which the last rows are kept, and counts it as long as there is room
abbrev pub after_capture : ℕ → List Tree → Cells → ℕ → Option Tree
after_capture entries row cells i =
    if i == 2 then option_map (λ buffer. buffer_after entries buffer (structure_of row)) (cells 2)
    else option_map (in_use_after entries) (cells 7)

-- a write puts its value and beside it what a reset leaves, a reset what it leaves, and a capture the buffer with its row and
-- the entries then in use
abbrev pub profile_new_value : ProfileFixed → Op → Tree → List Tree → Cells → ℕ → Option Tree
profile_new_value fixed (Write index) value row cells i = if i == index then Some value else Some (after_reset i)
profile_new_value fixed (Invoke method) argument row cells i =
    if method == 1 then Some (after_reset i) else after_capture fixed.entries row cells i
profile_new_value fixed Remember argument row cells i = cells i

-- a write of 4 may change 4, one of 3 changes 3, 2 and 7, reset and capture 2 and 7, and nothing else changes
abbrev pub profile_touched : Op → ℕ → Bool
profile_touched (Write index) i = ((index == 4) && (i == 4)) || ((index == 3) && ((i == 3) || ((i == 2) || (i == 7))))
profile_touched (Invoke method) i = ((method == 1) || (method == 2)) && ((i == 2) || (i == 7))
profile_touched Remember i = false

-- capture makes the buffer from the buffer, and entries_in_use from itself
abbrev pub profile_own_sources : Op → ℕ → ℕ → Bool
profile_own_sources (Write index) cell i = false
profile_own_sources (Invoke method) cell i = (method == 2) && (((cell == 2) && (i == 2)) || ((cell == 7) && (i == 7)))
profile_own_sources Remember cell i = false

-- capture puts its row into the buffer
abbrev pub profile_row_cells : Op → ℕ → Bool
profile_row_cells (Write index) i = false
profile_row_cells (Invoke method) i = (method == 2) && (i == 2)
profile_row_cells Remember i = false

-- as many values as one of the alternatives has cells
abbrev pub is_row_length : Choice (List CellRef) → ℕ → Bool
is_row_length captured number = list_any (λ cells. number == length cells) (alternatives captured)

-- a structure of so many values
abbrev pub is_entry : Choice (List CellRef) → Tree → Bool
is_entry captured (structure values) = is_row_length captured (length (parts values))
is_entry captured _ = false

-- an array of at most so many entries, each of as many values as an alternative has cells
abbrev pub is_buffer : Choice (List CellRef) → (entries : ℕ) → Tree → Bool
is_buffer captured entries (array rows) = nat_le (length (parts rows)) entries && list_all (is_entry captured) (parts rows)
is_buffer captured entries _ = false

-- a double-long-unsigned of at most so many
abbrev pub is_count : (entries : ℕ) → Tree → Bool
is_count entries (double_long_unsigned count) = nat_le count entries
is_count entries _ = false

-- what the value of a cell is: entries, one of the menu, where there is one, a capture_period, a number of entries
abbrev pub profile_test : ProfileFixed → ℕ → Tree → Bool
profile_test fixed index value =
    if index == 2 then is_buffer fixed.captured fixed.entries value
    else if index == 3 then not (has_menu fixed.captured) || meets (objects_rule fixed) value
    else if index == 4 then meets period_rule value
    else is_count fixed.entries value

abbrev pub ProfileMeetsRule : ProfileFixed → ℕ → Option Tree → Type 0
ProfileMeetsRule fixed index cell = IsCellWhere (has_profile_cell index) (profile_test fixed index) cell

-- a capture is given a value for each cell of an alternative, and no other operation looks at its row
abbrev pub IsProfileRow : ProfileFixed → Op → List Tree → Type 0
IsProfileRow fixed (Invoke method) row = method ≡ 2 → is_row_length fixed.captured (length row) ≡ true
IsProfileRow fixed (Write index) row = Unit {0}
IsProfileRow fixed Remember row = Unit {0}
