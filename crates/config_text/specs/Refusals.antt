-- Refusals with all the faults that one pass finds.
use Rattle.std.specs.Prelude.{◌≡◌, List, [], ◌∷◌, Result, Ok, Err}
use Rattle.config_text.specs.Fault.{Fault}
use Rattle.config_text.specs.declared.fault.ConfigFault.{ConfigFault}
use Rattle.config_text.specs.declared.fault.ConfigFault.TheVariants as refusals

-- a refusal has all of these faults, unless memory ran out (own profile)
abbrev pub Refuses : ConfigFault → List Fault → Type 0
Refuses refusals.Memory faults = Unit {0}
Refuses (refusals.Found first others) faults = faults ≡ first ∷ others.items

-- a function found none of these faults because there is none, or it was refused by all of them (own profile)
abbrev pub Finds : {X : Type 0} → Result X ConfigFault → List Fault → Type 0
Finds (Ok x) faults = faults ≡ []
Finds (Err refusal) faults = Refuses refusal faults

-- a refusal begins with the fault that the definition has, unless memory ran out (own profile)
abbrev pub Fails : {Y : Type 0} → ConfigFault → Result Y Fault → Type 0
Fails refusals.Memory said = Unit {0}
Fails (refusals.Found first others) said = said ≡ Err first
