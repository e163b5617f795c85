-- Class 21, Register monitor, version 0 (IEC 62056-6-2): the thresholds at 2 and, at 0, what was seen of the monitored
-- value (own profile) are its cells; monitored_value at 3 and actions at 4 are fixed; no method.
use Rattle.std.specs.Prelude.{ℕ, List, length, map, Option, Result, Ok, Err, Some, Bool, false, ◌==◌, ◌&&◌, ◌||◌, if◌then◌else◌}
use Rattle.cosem_data.specs.Tree.{Tree}
use Rattle.cosem_data.specs.Kinds.{kind_of, same_kind}
use Rattle.cosem_data.specs.declared.cell.CellRef.{CellRef}
use Rattle.cosem_data.specs.declared.kind.Kind.{Kind}
use Rattle.cosem_data.specs.declared.kind.Kind.TheVariants.{NullData}
use Rattle.cosem_data.specs.declared.name.LogicalName.{LogicalName}
use Rattle.meter_theory.specs.declared.refs.UpDown.{UpDown}
use Rattle.meter_theory.specs.Value.{Rule, OfKind, Thresholds, array_of, meets}
use Rattle.meter_theory.specs.Fixed.{name_value, monitored_value, up_down_value}
use Rattle.cosem_class.specs.declared.class.Op.{Op}
use Rattle.cosem_class.specs.declared.class.Op.TheVariants.{Write, Invoke, Remember}
use Rattle.cosem_class.specs.declared.class.ClassFault.{ClassFault}
use Rattle.cosem_class.specs.declared.class.ClassFault.TheVariants.{NoIndex}
use Rattle.cosem_class.specs.Objects.{Cells, put_at, no_cells, value_or_no_index, IsCellWhere}
use Rattle.cosem_class.specs.Judged.{judged, write_fault}
use Rattle.class_control.specs.declared.parts.MonitorPart.{MonitorPart}

-- what is fixed of an object: its name, the monitored attribute with the kind of its value, and the actions
pub record MonitorFixed : Type 0 where
  pub name : LogicalName
  pub monitored : CellRef
  pub kind : Kind
  pub actions : List UpDown

-- what a part fixes of an object with this name, over a monitored value of this kind
abbrev pub monitor_fixed : LogicalName → Kind → MonitorPart → MonitorFixed
monitor_fixed name kind part = record { name = name; monitored = part.monitored_value; kind = kind; actions = part.actions.items }

-- two cells: what was seen at 0, and the thresholds at 2
abbrev pub monitor_cells : Tree → Tree → Cells
monitor_cells seen thresholds = put_at 0 seen (put_at 2 thresholds no_cells)

-- what the thresholds may be: one value of the monitored kind for each action
abbrev pub monitor_rule : MonitorFixed → Rule
monitor_rule fixed = Thresholds (length fixed.actions) fixed.kind

-- what was seen: null-data before the first evaluation, else a value of the monitored kind (own profile)
abbrev pub may_be_seen : Kind → Tree → Bool
may_be_seen kind value = same_kind (kind_of value) NullData || meets (OfKind kind) value

-- 1, logical_name, 3, monitored_value, and 4, actions, are fixed, 2 is a cell, no request names the one at 0, and there is
-- no other
abbrev pub monitor_reading : MonitorFixed → ℕ → Option Tree → Result Tree ClassFault
monitor_reading fixed index cell =
    if index == 0 then Err NoIndex
    else if index == 1 then Ok (name_value fixed.name)
    else if index == 3 then Ok (monitored_value fixed.monitored)
    else if index == 4 then Ok (array_of (map up_down_value fixed.actions)) else value_or_no_index cell

-- A write of 2 is judged by the actions and the monitored kind, 1, 3 and 4 are not settable, there is no method, and what
-- is remembered is of the monitored kind.
abbrev pub monitor_refusal : MonitorFixed → Op → Tree → Option ClassFault
monitor_refusal fixed (Write index) value =
    write_fault (index == 2) ((index == 1) || ((index == 3) || (index == 4))) (judged (monitor_rule fixed) value)
monitor_refusal fixed (Invoke method) argument = Some NoIndex
monitor_refusal fixed Remember now = judged (OfKind fixed.kind) now

-- a write puts its value, and so does what is remembered
abbrev pub monitor_new_value : MonitorFixed → Op → Tree → List Tree → Cells → ℕ → Option Tree
monitor_new_value fixed op argument row cells i = Some argument

-- a write of 2 may change 2, what is remembered stands at 0, and nothing else changes
abbrev pub monitor_touched : Op → ℕ → Bool
monitor_touched (Write index) i = (index == 2) && (i == 2)
monitor_touched (Invoke method) i = false
monitor_touched Remember i = i == 0

-- the thresholds are those of the actions, and what was seen is null-data or of the monitored kind
abbrev pub MonitorMeetsRule : MonitorFixed → ℕ → Option Tree → Type 0
MonitorMeetsRule fixed index cell =
    IsCellWhere ((index == 0) || (index == 2)) (if index == 0 then may_be_seen fixed.kind else meets (monitor_rule fixed)) cell
