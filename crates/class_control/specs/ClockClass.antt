-- Class 8, Clock, version 0 (IEC 62056-6-2): one cell, time at 2; 3 to 9 are fixed; the six methods aren't offered (own profile).
use Rattle.std.specs.Prelude.{◌≡◌, ℕ, pos, List, Option, Result, Ok, Err, Some, None, Bool, false, ◌==◌, ◌&&◌, ◌||◌, if◌then◌else◌}
use Rattle.cosem_data.specs.Tree.{Tree, boolean, integer, long, unsigned, enumerated}
use Rattle.cosem_data.specs.declared.name.LogicalName.{LogicalName}
use Rattle.meter_theory.specs.Times.{Moment, clock_moment, clock_value}
use Rattle.meter_theory.specs.Value.{ClockTime, meets}
use Rattle.meter_theory.specs.Fixed.{name_value, no_date_time}
use Rattle.cosem_class.specs.declared.class.Op.{Op}
use Rattle.cosem_class.specs.declared.class.Op.TheVariants.{Write, Invoke, Remember}
use Rattle.cosem_class.specs.declared.class.ClassFault.{ClassFault}
use Rattle.cosem_class.specs.declared.class.ClassFault.TheVariants.{NoIndex}
use Rattle.cosem_class.specs.Objects.{Cells, put_at, no_cells, value_or_no_index, IsCellWhere}
use Rattle.cosem_class.specs.Judged.{judged, write_fault}

-- what is fixed of an object: its name
pub record ClockFixed : Type 0 where
  pub name : LogicalName

-- one cell: the time at 2
abbrev pub clock_cells : Tree → Cells
clock_cells time = put_at 2 time no_cells

-- the moment of a value that a clock may be set to, or why it may not
abbrev pub IsJudged : Tree → Result Moment ClassFault → Type 0
IsJudged value (Ok moment) = (judged ClockTime value ≡ None) × (moment ≡ clock_moment value)
IsJudged value (Err fault) = judged ClockTime value ≡ Some fault

-- 1, logical_name, and 3 to 9 are fixed, 2 is the cell, and there is no other
abbrev pub clock_reading : ClockFixed → ℕ → Option Tree → Result Tree ClassFault
clock_reading fixed index cell =
    if index == 1 then Ok (name_value fixed.name)
    else if index == 3 then Ok (long (pos 0))
    else if index == 4 then Ok (unsigned 0)
    else if index == 5 then Ok no_date_time
    else if index == 6 then Ok no_date_time
    else if index == 7 then Ok (integer (pos 0))
    else if index == 8 then Ok (boolean false)
    else if index == 9 then Ok (enumerated 0) else value_or_no_index cell

-- 1 and 3 to 9
abbrev pub is_fixed : ℕ → Bool
is_fixed index =
    (index == 1) || ((index == 3) || ((index == 4) || ((index == 5) || ((index == 6) || ((index == 7) || ((index == 8) || (index == 9)))))))

-- A write of 2 is judged, 1 and 3 to 9 are not settable, and no method is offered.
abbrev pub clock_refusal : ClockFixed → Op → Tree → Option ClassFault
clock_refusal fixed (Write index) value = write_fault (index == 2) (is_fixed index) (judged ClockTime value)
clock_refusal fixed (Invoke method) argument = Some NoIndex
clock_refusal fixed Remember argument = Some NoIndex

-- a write puts the moment of its value
abbrev pub clock_new_value : ClockFixed → Op → Tree → List Tree → Cells → ℕ → Option Tree
clock_new_value fixed op argument row cells i = Some (clock_value (clock_moment argument))

-- a write of 2 may change 2, and nothing else changes
abbrev pub clock_touched : Op → ℕ → Bool
clock_touched (Write index) i = (index == 2) && (i == 2)
clock_touched (Invoke method) i = false
clock_touched Remember i = false

-- the time may be put
abbrev pub ClockMeetsRule : ClockFixed → ℕ → Option Tree → Type 0
ClockMeetsRule fixed index cell = IsCellWhere (index == 2) (meets ClockTime) cell
