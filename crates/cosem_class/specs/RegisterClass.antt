-- Class 3, Register, version 0 (IEC 62056-6-2): one cell, the value at 2, a number whose kind is kept; scaler and unit
-- at 3 are fixed; method 1, reset, puts the default.
use Rattle.std.specs.Prelude.{◌≡◌, ℕ, List, Option, Result, Ok, Some, None, Bool, true, false, ◌==◌, ◌&&◌, ◌||◌, if◌then◌else◌}
use Rattle.cosem_data.specs.Tree.{Tree}
use Rattle.cosem_data.specs.Kinds.{kind_of}
use Rattle.cosem_data.specs.declared.name.LogicalName.{LogicalName}
use Rattle.meter_theory.specs.declared.refs.ScalerUnit.{ScalerUnit}
use Rattle.meter_theory.specs.Value.{Rule, OfKind, meets}
use Rattle.meter_theory.specs.Fixed.{name_value, scaler_unit_value}
use Rattle.cosem_class.specs.declared.class.Op.{Op}
use Rattle.cosem_class.specs.declared.class.Op.TheVariants.{Write, Invoke, Remember}
use Rattle.cosem_class.specs.declared.class.ClassFault.{ClassFault}
use Rattle.cosem_class.specs.declared.class.ClassFault.TheVariants.{NoIndex}
use Rattle.cosem_class.specs.Objects.{Cells, value_or_no_index, IsCellWhere}
use Rattle.cosem_class.specs.Judged.{judged, write_fault}

-- what is fixed of an object: its name, the start and default of its value, its scaler and unit
pub record RegisterFixed : Type 0 where
  pub name : LogicalName
  pub start : Tree
  pub default : Tree
  pub scaler_unit : ScalerUnit

-- what the value may be: of the kind of its start (own profile)
abbrev pub register_rule : RegisterFixed → Rule
register_rule fixed = OfKind (kind_of fixed.start)

-- 1, logical_name, and 3, scaler_unit, are fixed, 2 is the cell, and there is no other
abbrev pub register_reading : RegisterFixed → ℕ → Option Tree → Result Tree ClassFault
register_reading fixed index cell =
    if index == 1 then Ok (name_value fixed.name) else if index == 3 then Ok (scaler_unit_value fixed.scaler_unit) else value_or_no_index cell

-- A write of 2 is judged by the kind that is kept, 1 and 3 are not settable, and 1, reset, is the one method.
abbrev pub register_refusal : RegisterFixed → Op → Tree → Option ClassFault
register_refusal fixed (Write index) value =
    write_fault (index == 2) ((index == 1) || (index == 3)) (judged (register_rule fixed) value)
register_refusal fixed (Invoke method) argument = if method == 1 then None else Some NoIndex
register_refusal fixed Remember argument = Some NoIndex

-- a write puts its value, and a reset the default
abbrev pub register_new_value : RegisterFixed → Op → Tree → List Tree → Cells → ℕ → Option Tree
register_new_value fixed (Write index) value row cells i = Some value
register_new_value fixed (Invoke method) argument row cells i = Some fixed.default
register_new_value fixed Remember argument row cells i = cells i

-- a write of 2 and a reset may change 2, and nothing else changes
abbrev pub register_touched : Op → ℕ → Bool
register_touched (Write index) i = (index == 2) && (i == 2)
register_touched (Invoke method) i = (method == 1) && (i == 2)
register_touched Remember i = false

-- the default may stand in the cell
abbrev pub IsRegister : RegisterFixed → Type 0
IsRegister fixed = meets (register_rule fixed) fixed.default ≡ true

-- where the default may stand in the cell, so does its value
abbrev pub RegisterMeetsRule : RegisterFixed → ℕ → Option Tree → Type 0
RegisterMeetsRule fixed index cell = IsRegister fixed × IsCellWhere (index == 2) (meets (register_rule fixed)) cell
