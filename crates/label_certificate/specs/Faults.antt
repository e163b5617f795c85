-- The first fault of a text of labels, and what a reader's answer says of a definition. All of it is own profile.
use Rattle.std.specs.Prelude.{◌≡◌, ℕ, Bool, true, false, Option, Some, None, Result, Ok, Err, ⊤}
use Rattle.label_certificate.specs.declared.fault.LabelCode.{LabelCode}
use Rattle.label_certificate.specs.declared.fault.LabelCode.TheVariants as codes
use Rattle.label_certificate.specs.declared.fault.LabelFault.{LabelFault}
use Rattle.label_certificate.specs.declared.fault.LabelFault.TheVariants as faults

-- the number of a code (own profile)
abbrev pub number_of : LabelCode → ℕ
number_of codes.Form = 1
number_of codes.Cell = 2
number_of codes.Client = 3
number_of codes.Order = 4

-- the first fault ends a chain of lines (own profile)
infixl 10 ◌>>=◌
abbrev pub ◌>>=◌ : {A B E : Type 0} → Result A E → (A → Result B E) → Result B E
(Ok x) >>= f = f x
(Err e) >>= f = Err e

-- what was found, or this fault (own profile)
abbrev pub found_or : {A : Type 0} → LabelCode → Option A → Result A LabelCode
found_or code (Some x) = Ok x
found_or code None = Err code

-- this fault unless the test holds (own profile)
abbrev pub fault_unless : LabelCode → Bool → Result ⊤ LabelCode
fault_unless code true = Ok tt
fault_unless code false = Err code

-- the fault of a line, and the number of the line (own profile)
abbrev pub at_line : {A : Type 0} → ℕ → Result A LabelCode → Result A (LabelCode × ℕ)
at_line number (Ok x) = Ok x
at_line number (Err code) = Err (code, number)

-- the error is the definition's, unless memory ran out (own profile)
abbrev pub Fails : {Y : Type 0} → LabelFault → Result Y (LabelCode × ℕ) → Type 0
Fails faults.Memory read = Unit {0}
Fails (faults.Line code line) read = read ≡ Err (code, line)

-- what a function returned, seen by view, is what the definition gives, unless memory ran out (own profile)
abbrev pub Gives : {X Y : Type 0} → (X → Y) → Result X LabelFault → Result Y (LabelCode × ℕ) → Type 0
Gives view (Ok x) read = read ≡ Ok (view x)
Gives view (Err e) read = Fails e read
