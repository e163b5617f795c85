-- What is read of a table, beside what a definition says of it.
use Rattle.std.specs.Prelude.{◌≡◌, List, [], Option, Some, None, Result, Ok, Err, IfOk}
use Rattle.config_text.specs.Fault.{Fault, Faults, OfKeys, OfValues, joined, listed}
use Rattle.config_text.specs.declared.fault.TableFault.{TableFault}
use Rattle.config_text.specs.declared.fault.TableFault.TheVariants as refusals

-- the faults of a reading, if it has any
abbrev pub slips_in : {A : Type 0} → Result A Faults → Option Faults
slips_in (Ok x) = None
slips_in (Err faults) = Some faults

-- those of two readings
abbrev pub slips_of_both : Option Faults → Option Faults → Option Faults
slips_of_both None slips = slips
slips_of_both (Some faults) None = Some faults
slips_of_both (Some faults) (Some more) = Some (joined faults more)

-- faults as they are told
abbrev pub slips_listed : Option Faults → List Fault
slips_listed None = []
slips_listed (Some faults) = listed faults

-- a refusal has these faults, unless memory ran out (own profile)
abbrev pub IsSlip : TableFault → Option Faults → Type 0
IsSlip refusals.Memory slips = Unit {0}
IsSlip (refusals.Keys first others) slips = slips ≡ Some (OfKeys first others.items)
IsSlip (refusals.Values first others) slips = slips ≡ Some (OfValues first others.items)

-- a function found none of these faults because there is none, or it was refused by them (own profile)
abbrev pub Slips : {X : Type 0} → Result X TableFault → Option Faults → Type 0
Slips (Ok x) slips = slips ≡ None
Slips (Err refusal) slips = IsSlip refusal slips

-- what a function read, seen by view, is what the definition says, or it was refused by the faults that the definition has, unless
-- memory ran out (own profile)
abbrev pub Reads : {X Y : Type 0} → (X → Y) → Result X TableFault → Result Y Faults → Type 0
Reads view result said = IfOk result (λ x. said ≡ Ok (view x)) × Slips result (slips_in said)
