-- Configurations in which no pass finds a fault, and their policies.
use Rattle.std.specs.Prelude.{◌≡◌, ℕ, Ok, List, [], ◌∷◌, ◌==◌}
use Rattle.std.specs.List.{list_any}
use Rattle.cosem_data.specs.Clients.{has_client}
use Rattle.cosem_data.specs.declared.clients.ClientSet.{ClientSet}
use Rattle.meter_theory.specs.declared.flow.Label.{Label}
use Rattle.meter_theory.specs.Labels.{Labels, Policy}
use Rattle.config_text.specs.Parts.{Text, SetsText, LabelText, ConfigText}
use Rattle.config_rules.specs.Passes.{judged}
use Rattle.config_rules.specs.PlanOf.{cell_named, client_place}
use Rattle.config_rules.specs.Read.{IsRead}

-- the set has the clients with these names, and no others
abbrev pub HasNamed : ConfigText → List Text → ClientSet → Type 0
HasNamed c names set = (client : ℕ) → has_client set client ≡ list_any (λ name. client == client_place c name) names

-- who may influence a cell, and who may learn it
pub record IsLabelOf (c : ConfigText) (s : SetsText) (l : Label) : Type 0 where
  pub influence : HasNamed c s.influence l.influence
  pub learn : HasNamed c s.learn l.learn

-- a label for each cell that the configuration labels, in its order
abbrev pub AreLabelsOf : ConfigText → List LabelText → Labels → Type 0
AreLabelsOf c [] [] = Unit {0}
AreLabelsOf c [] (e ∷ table) = ⊥
AreLabelsOf c (l ∷ ls) [] = ⊥
AreLabelsOf c (l ∷ ls) (e ∷ table) = (e.0 ≡ cell_named c l.target) × IsLabelOf c l.sets e.1 × AreLabelsOf c ls table

-- The policy of a configuration: its labels, and that of each other cell.
pub record IsPolicyOf (c : ConfigText) (policy : Policy) : Type 0 where
  pub table : AreLabelsOf c c.labels policy.table
  pub default : IsLabelOf c c.policy policy.default

-- A configuration that could be read, and in which no pass finds a fault.
pub record IsFaultless (c : ConfigText) : Type 0 where
  pub read : IsRead c
  pub judged : judged c ≡ Ok tt
