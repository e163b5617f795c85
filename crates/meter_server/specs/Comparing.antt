-- What a new configuration gives and takes. All of it is own profile.
use Rattle.std.specs.Prelude.{◌≡◌, ◌⊎◌, ℕ, Bool, List, Option, Result, Ok}
use Rattle.config_reader.specs.ConfigOf.{config_of}
use Rattle.config_rules.specs.Faultless.{IsPolicyOf}
use Rattle.config_rules.specs.PlanOf.{plan_of}
use Rattle.config_text.specs.Refusals.{Fails}
use Rattle.config_text.specs.Parts.{ConfigText}
use Rattle.config_text.specs.declared.fault.ConfigFault.{ConfigFault}
use Rattle.flow_changes.specs.Written.{WritesComparison}
use Rattle.meter_theory.specs.Labels.{Policy}
use Rattle.meter_theory.specs.Plan.{Plan}
use Rattle.whole_writes.specs.declared.fault.ListFault.{ListFault}
use Rattle.text_files.specs.Files.{MayRead}
use Rattle.verdict.specs.declared.Verdict.TheVariants.{Config}
use Rattle.meter_server.specs.Files.{IsFile, IsUnread}
use Rattle.meter_server.specs.Outcomes.{compared}
use Rattle.meter_server.specs.Remarks.{AreTold, told_of}
use Rattle.meter_server.specs.declared.outcome.Outcome.{Outcome}
use Rattle.meter_server.specs.declared.outcome.Outcome.TheVariants.{JudgedSide}
use Rattle.meter_server.specs.declared.outcome.Side.{Side}
use Rattle.meter_server.specs.declared.outcome.Side.TheVariants as sides
use Rattle.meter_server.specs.declared.texts.Source.{Source}

-- a command came to this fault of the configuration on this side, which is explained
abbrev pub IsFaultySide : Side → ConfigFault → Outcome → Type 0
IsFaultySide side fault (JudgedSide told_side judged remarks) = (told_side ≡ side) × (judged ≡ Config fault) × AreTold (told_of remarks)
IsFaultySide side fault _ = ⊥

-- the file with this path has a configuration of this plan and this policy
pub record IsMadeOf (reads : MayRead) (path : List ℕ) (made : Plan × Policy) : Type 0 where
  pub source : Source
  pub source_is : IsFile reads path source
  pub said : ConfigText
  pub faultless : config_of source.text.now ≡ Ok said
  pub plan_is : made.0 ≡ plan_of said
  pub policy_is : IsPolicyOf said made.1

-- the file with this path isn't read, or its configuration has a fault, and a command tells that
abbrev pub FailsSide : MayRead → Side → List ℕ → Outcome → Type 0
FailsSide reads side path outcome =
    IsUnread reads path outcome
    ⊎ ((source : Source) × IsFile reads path source × (fault : ConfigFault) × Fails fault (config_of source.text.now) × IsFaultySide side fault outcome)

-- how the configuration in a new file is compared with an old plan and an old policy
abbrev pub ComparesWith : MayRead → Plan → Policy → List ℕ → (before after : Option (List ℕ)) → Outcome → Type 0
ComparesWith reads old old_policy new before after outcome =
    (FailsSide reads sides.New new outcome × (after ≡ before))
    ⊎ ((made : Plan × Policy) × IsMadeOf reads new made
    × (result : Result Bool ListFault) × WritesComparison old old_policy made.0 made.1 before after result × (outcome ≡ compared result))

-- how the configurations in two files are compared: the old one is read and judged first
abbrev pub ComparesFiles : MayRead → (old new : List ℕ) → (before after : Option (List ℕ)) → Outcome → Type 0
ComparesFiles reads old new before after outcome =
    (FailsSide reads sides.Old old outcome × (after ≡ before))
    ⊎ ((made : Plan × Policy) × IsMadeOf reads old made × ComparesWith reads made.0 made.1 new before after outcome)
