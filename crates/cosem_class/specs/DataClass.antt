-- Class 1, Data, version 0 (IEC 62056-6-2): one cell, the value at 2, whose kind is kept.
use Rattle.std.specs.Prelude.{ℕ, List, Option, Result, Ok, Some, Bool, false, ◌==◌, ◌&&◌, if◌then◌else◌}
use Rattle.cosem_data.specs.Tree.{Tree}
use Rattle.cosem_data.specs.declared.kind.Kind as kinds
use Rattle.cosem_data.specs.declared.name.LogicalName.{LogicalName}
use Rattle.meter_theory.specs.Value.{OfKind, meets}
use Rattle.meter_theory.specs.Fixed.{name_value}
use Rattle.cosem_class.specs.declared.class.Op.{Op}
use Rattle.cosem_class.specs.declared.class.Op.TheVariants.{Write, Invoke, Remember}
use Rattle.cosem_class.specs.declared.class.ClassFault.{ClassFault}
use Rattle.cosem_class.specs.declared.class.ClassFault.TheVariants.{NoIndex}
use Rattle.cosem_class.specs.Objects.{Cells, put_at, no_cells, value_or_no_index, IsCellWhere}
use Rattle.cosem_class.specs.Judged.{judged, write_fault}

-- what is fixed of an object: its name, and the kind of its value
pub record DataFixed : Type 0 where
  pub name : LogicalName
  pub kind : kinds.Kind

-- one cell: the value at 2
abbrev pub value_cells : Tree → Cells
value_cells value = put_at 2 value no_cells

-- attribute 1, logical_name, is fixed, 2 is the cell, and there is no other
abbrev pub data_reading : DataFixed → ℕ → Option Tree → Result Tree ClassFault
data_reading fixed index cell = if index == 1 then Ok (name_value fixed.name) else value_or_no_index cell

-- A write of 2 is judged by the kind that is kept, 1 is not settable, and there is no method (limits own profile).
abbrev pub data_refusal : DataFixed → Op → Tree → Option ClassFault
data_refusal fixed (Write index) value = write_fault (index == 2) (index == 1) (judged (OfKind fixed.kind) value)
data_refusal fixed (Invoke method) argument = Some NoIndex
data_refusal fixed Remember argument = Some NoIndex

-- a write puts its value
abbrev pub data_new_value : DataFixed → Op → Tree → List Tree → Cells → ℕ → Option Tree
data_new_value fixed op argument row cells i = Some argument

-- a write of 2 may change 2, and nothing else changes
abbrev pub data_touched : Op → ℕ → Bool
data_touched (Write index) i = (index == 2) && (i == 2)
data_touched (Invoke method) i = false
data_touched Remember i = false

-- the value is of the kind that is kept, within the limits
abbrev pub DataMeetsRule : DataFixed → ℕ → Option Tree → Type 0
DataMeetsRule fixed index cell = IsCellWhere (index == 2) (meets (OfKind fixed.kind)) cell
