-- By which ways a client of a configuration may influence and learn a cell. All of it is own profile. Texts are lists of bytes.
use Rattle.std.specs.Prelude.{◌≡◌, ◌⊎◌, ℕ, List, ◌++◌, codes, string_bytes, Option, None, Some, Result, Ok}
use Rattle.std.specs.List.{position_from}
use Rattle.std.specs.Str.{bytes_eq}
use Rattle.config_rules.specs.Faultless.{IsPolicyOf}
use Rattle.config_rules.specs.PlanOf.{plan_of}
use Rattle.config_text.specs.Fault.{Fault as ConfigFault}
use Rattle.config_text.specs.Refusals.{Fails}
use Rattle.config_text.specs.Parts.{ConfigText}
use Rattle.config_text.specs.declared.fault.ConfigFault.{ConfigFault as FaultTold}
use Rattle.shown_text.specs.Printable.{printable}
use Rattle.meter_theory.specs.Labels.{Policy}
use Rattle.meter_theory.specs.Plan.{Plan, cells, client_named}
use Rattle.flow_forms.specs.Listing.{WritesWhy}
use Rattle.whole_writes.specs.declared.fault.ListFault.{ListFault}
use Rattle.whole_writes.specs.declared.fault.ListFault.TheVariants as lists
use Rattle.value_text.specs.Texts.{cell_text}
use Rattle.meter_server.specs.Noticing.{TellsStranger}
use Rattle.meter_server.specs.Outcomes.{listed}
use Rattle.meter_server.specs.Program.{IsFaulty}
use Rattle.meter_server.specs.declared.outcome.Outcome.{Outcome}
use Rattle.meter_server.specs.declared.outcome.Outcome.TheVariants.{Stranger, Unwritten}
use Rattle.meter_server.specs.declared.texts.Source.{Source}

-- the number of the cell of the plan that is printed so
abbrev pub cell_printed : Plan → List ℕ → Option ℕ
cell_printed P word = position_from (λ x. bytes_eq (cell_text x) word) 0 (cells P)

-- what is told of a cell that the plan hasn't
abbrev pub strange_cell_words : List ℕ → List ℕ
strange_cell_words word = codes "unknown cell " ++ (printable word ++ codes "; cosem-flow label lists the cells")

-- a command tells that the plan has no cell that is printed so; or memory was refused for that
abbrev pub TellsStrangeCell : List ℕ → Outcome → Type 0
TellsStrangeCell word (Stranger told) = string_bytes told ≡ strange_cell_words word
TellsStrangeCell word (Unwritten lists.Memory) = Unit {0}
TellsStrangeCell word _ = ⊥

-- how a command ends for the client at this place and the cell with this number: it is told by which ways the client may influence and learn the cell; or the plan has no such cell, and nothing is written
abbrev pub TellsWaysAt : Plan → Policy → ℕ → List ℕ → Option ℕ → (before after : Option (List ℕ)) → Outcome → Type 0
TellsWaysAt P Q client word None before after outcome = TellsStrangeCell word outcome × (after ≡ before)
TellsWaysAt P Q client word (Some cell) before after outcome =
    (result : Result (Unit {0}) ListFault) × WritesWhy P Q client cell before after result × (outcome ≡ listed result)

-- the same for a cell that is printed so; or memory was refused while it was looked for, and nothing is written
abbrev pub TellsWaysTo : Plan → Policy → ℕ → List ℕ → (before after : Option (List ℕ)) → Outcome → Type 0
TellsWaysTo P Q client word before after outcome =
    TellsWaysAt P Q client word (cell_printed P word) before after outcome ⊎ ((outcome ≡ Unwritten lists.Memory) × (after ≡ before))

-- the same for the client of this name, which is at this place; or the plan has no such client, and nothing is written
abbrev pub TellsWaysOf : Plan → Policy → List ℕ → List ℕ → Option ℕ → (before after : Option (List ℕ)) → Outcome → Type 0
TellsWaysOf P Q name word None before after outcome = TellsStranger P name outcome × (after ≡ before)
TellsWaysOf P Q name word (Some client) before after outcome = TellsWaysTo P Q client word before after outcome

abbrev pub TellsWays : Plan → Policy → List ℕ → List ℕ → (before after : Option (List ℕ)) → Outcome → Type 0
TellsWays P Q name word before after outcome = TellsWaysOf P Q name word (client_named P name) before after outcome

-- how it is told of a text's configuration: its fault is told and explained, and nothing is written; or it is told of its plan and its policy
abbrev pub AsksWhy : List ℕ → List ℕ → Source → Result ConfigText ConfigFault → (before after : Option (List ℕ)) → Outcome → Type 0
AsksWhy name word config said before after outcome =
    ((fault : FaultTold) × Fails fault said × IsFaulty fault outcome × (after ≡ before))
    ⊎ ((c : ConfigText) × (said ≡ Ok c) × (Q : Policy) × IsPolicyOf c Q × TellsWays (plan_of c) Q name word before after outcome)
