-- The values in the texts of a configuration.
use Rattle.std.specs.Prelude.{ℕ, ◌==◌, Bool, true, false, ◌&&◌, cond, List, [], ◌∷◌, length, take, drop, Option, Some, None, option_map}
use Rattle.cosem_data.specs.Tree.{Tree, octet_string}
use Rattle.cosem_data.specs.Kinds.{kind_of, same_kind, is_number_kind}
use Rattle.cosem_data.specs.declared.kind.Kind.{Kind}
use Rattle.meter_theory.specs.Value.{structure_of}
use Rattle.meter_theory.specs.Times.{is_execution_time}
use Rattle.value_text.specs.Texts.{bytes_in, value_in}
use Rattle.config_text.specs.Parts.{Text, ConfigText, ObjectText, BodyText, DataText, RegisterText}
use Rattle.config_rules.specs.Names.{object_named}

-- time, then date (IEC 62056-6-2, Single action schedule, execution_time_date)
abbrev pub time_and_date : List ℕ → Tree
time_and_date bytes = structure_of (octet_string (take 4 bytes) ∷ octet_string (drop 4 bytes) ∷ [])

abbrev pub are_time_and_date : Option (List ℕ) → Bool
are_time_and_date None = false
are_time_and_date (Some bytes) = (length bytes == 9) && is_execution_time (time_and_date bytes)

-- the text is the hex text of nine bytes, a time and a date with each field in its range
abbrev pub is_time_text : Text → Bool
is_time_text text = are_time_and_date (bytes_in text)

-- The kind of the value with which a cell starts, where it has one that can be read
abbrev pub kind_in : Text → Option Kind
kind_in text = option_map kind_of (value_in text)

abbrev pub start_kind_in : BodyText → Option Kind
start_kind_in (DataText value) = kind_in value
start_kind_in (RegisterText value default scaler unit) = kind_in value
start_kind_in _ = None

abbrev pub start_kind : Option ObjectText → Option Kind
start_kind None = None
start_kind (Some o) = start_kind_in o.body

abbrev pub kind_named : ConfigText → Text → Option Kind
kind_named c name = start_kind (object_named c name)

-- the value is of the kind; nothing is judged by a kind that isn't known
abbrev pub has_kind : Option Kind → Tree → Bool
has_kind None v = true
has_kind (Some kind) v = same_kind (kind_of v) kind

-- the text is a value of the kind
abbrev pub is_of_kind : Option Kind → Option Tree → Bool
is_of_kind kind None = false
is_of_kind kind (Some v) = has_kind kind v

abbrev pub is_number : Option Kind → Bool
is_number None = false
is_number (Some kind) = is_number_kind kind

-- a kind that isn't known is no fault here
abbrev pub may_be_number : Option Kind → Bool
may_be_number None = true
may_be_number (Some kind) = is_number_kind kind

-- the kind, where it is one of numbers: by another one, which is a fault itself, nothing is judged
abbrev pub number_kind : Option Kind → Option Kind
number_kind None = None
number_kind (Some kind) = cond (is_number_kind kind) (Some kind) None
