-- Texts that are written, or a beginning of them. All of it is own profile.
use Rattle.std.specs.Prelude.{◌≡◌, ◌<◌, ℕ, List, ◌++◌, codes, length, Option, Result, Ok, Err}
use Rattle.std.specs.Io.KnownBytes.{Appends}
use Rattle.whole_writes.specs.declared.fault.ListFault.{ListFault}
use Rattle.whole_writes.specs.declared.fault.ListFault.TheVariants as faults

-- what told a fault
abbrev pub fault_words : ListFault → List ℕ
fault_words faults.Write = codes "the output can't be written"
fault_words faults.Memory = codes "out of memory"

-- what a fault leaves of a text: of a write that failed, something
abbrev pub Leaves : ListFault → List ℕ → Type 0
Leaves faults.Write left = 0 < length left
Leaves faults.Memory left = Unit {0}

-- a text was written, or a beginning of it, behind which a fault stopped it
abbrev pub WritesText : List ℕ → (before after : Option (List ℕ)) → Result (Unit {0}) ListFault → Type 0
WritesText text before after (Ok u) = Appends before after text
WritesText text before after (Err fault) = (front : List ℕ) × (left : List ℕ) × (text ≡ front ++ left) × Appends before after front × Leaves fault left
