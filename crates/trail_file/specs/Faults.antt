-- What is told of a fault of a trail's file, and which of them come before anything is written (own profile).
use Rattle.std.specs.Prelude.{ℕ, Bool, true, false, List, codes}
use Rattle.trail_file.specs.declared.fault.TrailFault.{TrailFault}
use Rattle.trail_file.specs.declared.fault.TrailFault.TheVariants.{Memory, Full, NotRead, Foreign, OtherConfiguration, Damaged, NotKept, InDoubt}

abbrev pub fault_words : TrailFault → List ℕ
fault_words Memory = codes "out of memory"
fault_words Full = codes "it is too long for another entry"
fault_words NotRead = codes "it can't be read"
fault_words Foreign = codes "it is no trail of cosem-flow"
fault_words OtherConfiguration = codes "it is the trail of another configuration"
fault_words Damaged = codes "its last entry isn't whole"
fault_words NotKept = codes "it can't be written, and what was to be added isn't kept"
fault_words InDoubt = codes "it can't be written, and what was to be added may be kept or not"

-- nothing was written
abbrev pub is_before_writing : TrailFault → Bool
is_before_writing NotKept = false
is_before_writing InDoubt = false
is_before_writing _ = true
