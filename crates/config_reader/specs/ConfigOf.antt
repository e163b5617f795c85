-- What a configuration's text says, or its first fault; and every fault that the pass finds which finds this one.
use Rattle.std.specs.Prelude.{◌≡◌, List, [], ◌∷◌, Result, Ok, Err}
use Rattle.meter_theory.specs.Labels.{Policy}
use Rattle.meter_theory.specs.Plan.{Plan}
use Rattle.config_text.specs.declared.fault.ConfigFault.{ConfigFault}
use Rattle.config_text.specs.Fault.{Fault, first_found, first_of, ◌>>=◌}
use Rattle.config_text.specs.Refusals.{Fails, Refuses}
use Rattle.config_text.specs.Parts.{Text, ConfigText}
use Rattle.config_rules.specs.Faultless.{IsPolicyOf}
use Rattle.config_rules.specs.Passes.{found, judged}
use Rattle.config_rules.specs.PlanOf.{plan_of}
use Rattle.config_text.specs.Document.{table_faults, tables_of}

-- the tables, and then the passes over what they say; the first fault ends them (own profile)
unfoldable pub config_of : Text → Result ConfigText Fault
config_of text = do
  c ← tables_of text
  found ← judged c
  Ok c

-- A reader's answer to a text: the plan and the policy of what the text says, or its first fault, unless memory was refused
-- (own profile).
abbrev pub Reads : Result (Plan × Policy) ConfigFault → Result ConfigText Fault → Type 0
Reads (Ok made) (Ok c) = (made.0 ≡ plan_of c) × IsPolicyOf c made.1
Reads (Ok made) (Err fault) = ⊥
Reads (Err fault) said = Fails fault said

-- the faults of what the tables say, where that could be read
abbrev pub faults_in : Result ConfigText Fault → List Fault
faults_in (Ok c) = found c
faults_in (Err fault) = []

-- every fault that is found by the first pass over the text that finds any (own profile)
unfoldable pub faults_of : Text → List Fault
faults_of text = first_found (table_faults text ∷ faults_in (tables_of text) ∷ [])

-- faults of a text that is read, which has none, or of one that is refused by the first of them (own profile)
abbrev pub AreFaultsOf : Result ConfigText Fault → List Fault → Type 0
AreFaultsOf (Ok c) faults = faults ≡ []
AreFaultsOf (Err fault) faults = first_of faults ≡ Err fault

-- A reader's answer to a text with these faults: the plan and the policy of what it says, or all the faults, unless memory was
-- refused (own profile).
abbrev pub ReadsOrRefuses : Result (Plan × Policy) ConfigFault → Result ConfigText Fault → List Fault → Type 0
ReadsOrRefuses (Ok made) (Ok c) faults = (made.0 ≡ plan_of c) × IsPolicyOf c made.1
ReadsOrRefuses (Ok made) (Err fault) faults = ⊥
ReadsOrRefuses (Err refusal) said faults = Refuses refusal faults
