-- What it means that nobody gains. All of it is own profile.
use Rattle.std.specs.Prelude.{◌≡◌, ℕ, Bool, true, List, []}
use Rattle.cosem_data.specs.declared.cell.CellRef.{CellRef}
use Rattle.meter_theory.specs.Labels.{Labelling, labelling_of, labelling_of_policy}
use Rattle.meter_theory.specs.Lists.{IsIn}
use Rattle.meter_theory.specs.Plan.{Object, cells, class_of}
use Rattle.meter_theory.specs.Rights.{has_right}
use Rattle.flow_changes.specs.Changes.{gainers}
use Rattle.flow_changes.specs.Facts.{Numbered, is_granted, is_reached, numbered}
use Rattle.flow_map.specs.Map.{Configuration}
use Rattle.meter_theory.specs.declared.flow.Access.{Access}
use Rattle.meter_theory.specs.declared.flow.Reach.{Reach}

-- the first line of the comparison tells so
abbrev pub NobodyGains : (old new : Configuration) → Type 0
NobodyGains old new = gainers old new ≡ []

-- a client of the configuration with this name
abbrev pub IsNamed : Configuration → List ℕ → Numbered → Type 0
IsNamed C name n = IsIn (numbered C.plan) n × (n.1.name ≡ name)

-- what the least labels say of a cell, and what the policy says
abbrev pub least : Configuration → Labelling
least C = labelling_of C.labels

abbrev pub policy_of : Configuration → Labelling
policy_of C = labelling_of_policy C.plan C.policy

-- a labelling has a client of the configuration influence or learn one of its cells
abbrev pub HasReach : Configuration → Labelling → Reach → Numbered → CellRef → Type 0
HasReach C Q reach n x = IsIn (numbered C.plan) n × IsIn (cells C.plan) x × (is_reached Q n.0 reach x ≡ true)

-- a client of the configuration with this name is in the set of the cell too
abbrev pub NamedReaches : Configuration → Labelling → Reach → List ℕ → CellRef → Type 0
NamedReaches C Q reach name x = (n : Numbered) × (n.1.name ≡ name) × HasReach C Q reach n x

-- a client of the configuration with this name has a right on an object of this class and name
abbrev pub NamedSees : Configuration → List ℕ → Object → Type 0
NamedSees C name o =
    (n : Numbered) × IsNamed C name n × (p : Object) × IsIn C.plan.objects p × (p.name ≡ o.name) × (class_of p.part ≡ class_of o.part) × (has_right C.plan n.0 o.name (λ r. true) ≡ true)

-- and a right of it on such an object lists this attribute or method
abbrev pub NamedHolds : Configuration → List ℕ → Access → CellRef → Type 0
NamedHolds C name access x =
    (n : Numbered) × IsNamed C name n × (p : Object) × IsIn C.plan.objects p × (p.name ≡ x.name) × (class_of p.part ≡ x.class_id) × (is_granted C.plan n.0 access x ≡ true)

-- a labelling of cells by the names of clients
abbrev pub NamedLabelling : Type 0
NamedLabelling = List ℕ → Reach → CellRef → Bool

-- whom a labelling has influence or learn a cell of the configuration, the other allows to by its name
abbrev pub LiesWithin : Configuration → Labelling → NamedLabelling → Type 0
LiesWithin C Q W = (reach : Reach) (n : Numbered) (x : CellRef) → HasReach C Q reach n x → W n.1.name reach x ≡ true
