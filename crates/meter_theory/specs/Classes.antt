-- What the table of the interface classes says of a class by its number (IEC 62056-6-2, interface classes).
use Rattle.std.specs.Prelude.{ℕ, ◌==◌, nat_le, Bool, true, false, not, ◌&&◌, Option, option_map, find}
use Rattle.std.specs.List.{list_any}
use Rattle.meter_theory.specs.declared.classes.CellRow.{CellRow}
use Rattle.meter_theory.specs.declared.classes.Class.{Class}
use Rattle.meter_theory.specs.declared.classes.Class.TheVariants as classes
use Rattle.meter_theory.specs.declared.classes.TheConstants as table
use Rattle.cosem_data.specs.declared.name.LogicalName.{LogicalName}
use Rattle.meter_theory.specs.declared.refs.Interface.{Interface}
use Rattle.meter_theory.specs.Plan.{Part, Data1, Register, ProfileGeneric, Clock, ScriptTable, RegisterMonitor, SingleActionSchedule, start_of}

-- the class of a part
abbrev pub class_at : Part → Class
class_at (Data1 start) = classes.Data
class_at (Register start default scaler_unit) = classes.Register
class_at (ProfileGeneric captured period entries) = classes.ProfileGeneric
class_at (Clock start) = classes.Clock
class_at (ScriptTable scripts) = classes.ScriptTable
class_at (RegisterMonitor monitored thresholds actions) = classes.RegisterMonitor
class_at (SingleActionSchedule script type times) = classes.SingleActionSchedule

-- the interface class with this number
abbrev pub interface_with : ℕ → Option Interface
interface_with class =
    option_map (λ row. record { class_id = row.class_id; version = row.version; attributes = row.attributes; methods = row.methods })
    (find (λ row. class == row.class_id) table.CLASSES)

-- two classes are one
abbrev pub same_class : Class → Class → Bool
same_class classes.Data classes.Data = true
same_class classes.Register classes.Register = true
same_class classes.ProfileGeneric classes.ProfileGeneric = true
same_class classes.Clock classes.Clock = true
same_class classes.ScriptTable classes.ScriptTable = true
same_class classes.RegisterMonitor classes.RegisterMonitor = true
same_class classes.SingleActionSchedule classes.SingleActionSchedule = true
same_class _ _ = false

-- the class with this number, if a configuration of this version may have objects of it
abbrev pub class_in : ℕ → ℕ → Option Class
class_in version number =
    option_map (λ row. row.class) (find (λ row. (number == row.class_id) && nat_le row.since version) table.CLASSES)

-- this is the number of the class
abbrev pub is_of_class : ℕ → Class → Bool
is_of_class number class = list_any (λ row. same_class row.class class && (number == row.class_id)) table.CLASSES

-- a configuration of this version may have objects of the class
abbrev pub is_known : ℕ → ℕ → Bool
is_known version class = list_any (λ row. (class == row.class_id) && nat_le row.since version) table.CLASSES

-- an index from 1 to the highest
abbrev pub is_up_to : ℕ → ℕ → Bool
is_up_to highest index = nat_le 1 index && nat_le index highest

-- the class has the attribute
abbrev pub has_attribute : ℕ → ℕ → Bool
has_attribute class index = list_any (λ row. (class == row.class_id) && is_up_to row.attributes index) table.CLASSES

-- the class has the method, and a right may grant it and a script call it
abbrev pub has_method : ℕ → ℕ → Bool
has_method class index = list_any (λ row. (class == row.class_id) && is_up_to row.granted_methods index) table.CLASSES

-- this is the row of the attribute
abbrev pub is_of : CellRow → ℕ → ℕ → Bool
is_of row class index = (class == row.class_id) && (index == row.index)

-- the attribute can change
abbrev pub is_cell : ℕ → ℕ → Bool
is_cell class index = list_any (λ row. not row.is_inner && is_of row class index) table.CELLS

-- a part starts with a value at this index; an inner cell, at index 0, isn't counted
abbrev pub starts_at : LogicalName → Part → ℕ → Bool
starts_at n part index = list_any (λ entry. not (entry.0.index == 0) && (index == entry.0.index)) (start_of n part)

-- the attribute is a settable cell where its object has a menu
abbrev pub is_choice : ℕ → ℕ → Bool
is_choice class index = list_any (λ row. (class == row.class_id) && (index == row.index)) table.CHOICES

-- a request or a script may set it
abbrev pub is_settable : ℕ → ℕ → Bool
is_settable class index = list_any (λ row. row.is_settable && is_of row class index) table.CELLS

-- a profile may capture it
abbrev pub is_capturable : ℕ → ℕ → Bool
is_capturable class index = list_any (λ row. row.is_capturable && is_of row class index) table.CELLS

-- a register monitor may monitor it
abbrev pub is_monitorable : ℕ → ℕ → Bool
is_monitorable class index = list_any (λ row. row.is_monitorable && is_of row class index) table.CELLS

-- inputs from outside may go to an object of the class
abbrev pub may_be_fed : ℕ → Bool
may_be_fed class = list_any (λ row. row.is_fed && (class == row.class_id)) table.CELLS
