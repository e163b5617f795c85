-- The names of interface classes and of their attributes, as IEC 62056-6-2 has them. Texts are lists of bytes.
use Rattle.std.specs.Prelude.{ℕ, ◌==◌, List, [], codes, ◌||◌, if◌then◌else◌}

-- a class that has cells or scripts; any other has no name here (own profile)
abbrev pub class_name : ℕ → List ℕ
class_name class_id =
    if class_id == 1 then codes "Data" else
    if class_id == 3 then codes "Register" else
    if class_id == 7 then codes "Profile generic" else
    if class_id == 8 then codes "Clock" else
    if class_id == 9 then codes "Script table" else
    if class_id == 21 then codes "Register monitor" else
    if class_id == 22 then codes "Single action schedule" else
    []

-- attributes that are cells, by their indexes: of data and registers
abbrev pub value_name : ℕ → List ℕ
value_name index = if index == 2 then codes "value" else []

-- of profiles
abbrev pub profile_name : ℕ → List ℕ
profile_name index =
    if index == 2 then codes "buffer" else
    if index == 3 then codes "capture_objects" else
    if index == 4 then codes "capture_period" else
    if index == 7 then codes "entries_in_use" else
    []

-- of clocks
abbrev pub time_name : ℕ → List ℕ
time_name index = if index == 2 then codes "time" else []

-- of register monitors, whose index 0 is what they have seen (own profile)
abbrev pub monitor_name : ℕ → List ℕ
monitor_name index =
    if index == 0 then codes "seen" else
    if index == 2 then codes "thresholds" else
    []

-- of schedules
abbrev pub schedule_name : ℕ → List ℕ
schedule_name index =
    if index == 2 then codes "executed_script" else
    if index == 4 then codes "execution_time" else
    []

-- an attribute by its class and its index; one that is no cell has no name here (own profile)
abbrev pub attribute_name : (class_id index : ℕ) → List ℕ
attribute_name class_id index =
    if class_id == 1 || class_id == 3 then value_name index else
    if class_id == 7 then profile_name index else
    if class_id == 8 then time_name index else
    if class_id == 21 then monitor_name index else
    if class_id == 22 then schedule_name index else
    []
