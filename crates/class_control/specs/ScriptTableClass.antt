-- Class 9, Script table, version 0 (IEC 62056-6-2): no cell; scripts at 2 is fixed; method 1, execute, takes the number of
-- a script, and changes nothing of the table itself.
use Rattle.std.specs.Prelude.{◌≡◌, ℕ, List, map, Option, Result, Ok, Some, None, Bool, false, ◌==◌, ◌||◌, if◌then◌else◌}
use Rattle.cosem_data.specs.Tree.{Tree}
use Rattle.cosem_data.specs.declared.name.LogicalName.{LogicalName}
use Rattle.meter_theory.specs.Plan.{Script}
use Rattle.meter_theory.specs.Rights.{knows_script}
use Rattle.meter_theory.specs.Selection.{as_long_unsigned}
use Rattle.meter_theory.specs.Value.{array_of}
use Rattle.meter_theory.specs.Fixed.{name_value, script_value}
use Rattle.cosem_class.specs.declared.class.Op.{Op}
use Rattle.cosem_class.specs.declared.class.Op.TheVariants.{Write, Invoke, Remember}
use Rattle.cosem_class.specs.declared.class.ClassFault.{ClassFault}
use Rattle.cosem_class.specs.declared.class.ClassFault.TheVariants.{NoIndex, Kind, UnknownScript}
use Rattle.cosem_class.specs.Objects.{Cells, value_or_no_index}
use Rattle.cosem_class.specs.Judged.{write_fault}

-- what is fixed of an object: its name and its scripts
pub record ScriptTableFixed : Type 0 where
  pub name : LogicalName
  pub scripts : List Script

-- 1, logical_name, and 2, scripts, are fixed, and there is no cell
abbrev pub script_table_reading : ScriptTableFixed → ℕ → Option Tree → Result Tree ClassFault
script_table_reading fixed index cell =
    if index == 1 then Ok (name_value fixed.name)
    else if index == 2 then Ok (array_of (map script_value fixed.scripts)) else value_or_no_index cell

-- what execute is given is the number of a script, a long-unsigned; script 0 is the null script
abbrev pub execute_fault : List Script → Option ℕ → Option ClassFault
execute_fault scripts None = Some Kind
execute_fault scripts (Some id) = if knows_script scripts id then None else Some UnknownScript

-- 1 and 2 are not settable, and 1, execute, is the one method.
abbrev pub script_table_refusal : ScriptTableFixed → Op → Tree → Option ClassFault
script_table_refusal fixed (Write index) value = write_fault false ((index == 1) || (index == 2)) None
script_table_refusal fixed (Invoke method) argument =
    if method == 1 then execute_fault fixed.scripts (as_long_unsigned argument) else Some NoIndex
script_table_refusal fixed Remember argument = Some NoIndex

-- nothing changes
abbrev pub script_table_touched : Op → ℕ → Bool
script_table_touched op i = false

-- nothing changes
abbrev pub script_table_new_value : ScriptTableFixed → Op → Tree → List Tree → Cells → ℕ → Option Tree
script_table_new_value fixed op argument row cells i = cells i

-- there is no cell
abbrev pub ScriptTableMeetsRule : ScriptTableFixed → ℕ → Option Tree → Type 0
ScriptTableMeetsRule fixed index cell = cell ≡ None
