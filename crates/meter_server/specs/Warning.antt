-- What a configuration without fault is warned of (own profile throughout).
use Rattle.std.specs.Prelude.{◌≡◌, ◌⊎◌, ◌++◌, List, [], ℕ, Bool, Option, None, Some, Result, Ok, Err, length, map}
use Rattle.command_words.specs.declared.command.Warned.{Warned}
use Rattle.command_words.specs.declared.command.Warned.TheVariants.{Nothing, Slips, SlipsAndWidths}
use Rattle.config_rules.specs.Faultless.{IsPolicyOf}
use Rattle.config_rules.specs.PlanOf.{plan_of}
use Rattle.config_text.specs.Fault.{Fault as ConfigFault}
use Rattle.config_text.specs.Refusals.{Fails}
use Rattle.config_text.specs.Parts.{ConfigText}
use Rattle.config_text.specs.declared.fault.ConfigFault.{ConfigFault as FaultTold}
use Rattle.config_warnings.specs.Found.{warnings_of}
use Rattle.config_warnings.specs.Widths.{wider_cells}
use Rattle.explanations.specs.Lines.{AreLines}
use Rattle.explanations.specs.Warnings.{width_line}
use Rattle.explanations.specs.declared.warnings.Whose.TheVariants as whose
use Rattle.label_certificate.specs.declared.fault.LabelCode.{LabelCode}
use Rattle.label_certificate.specs.LabelText.{labels_of_text}
use Rattle.meter_theory.specs.Labels.{AreLeast, Labels, Policy, labelling_of, labelling_of_policy}
use Rattle.meter_theory.specs.Plan.{Plan, cells}
use Rattle.flow_forms.specs.Listing.{WritesLeast}
use Rattle.verdict.specs.Judging.{IsVerdictOn}
use Rattle.verdict.specs.declared.Verdict.TheVariants.{Accepted}
use Rattle.meter_server.specs.Program.{IsFaulty, RefusesOn}
use Rattle.meter_server.specs.Remarks.{GoesOn, IsTold, Told, TellsBoth, told_of, whole}
use Rattle.meter_server.specs.declared.outcome.Outcome.{Outcome}
use Rattle.meter_server.specs.declared.outcome.Outcome.TheVariants.{Judged, JudgedWhole}
use Rattle.meter_server.specs.declared.outcome.Outcome.TheVariants as outcomes
use Rattle.meter_server.specs.declared.remarks.Remarks.{Remarks}
use Rattle.meter_server.specs.declared.texts.Source.{Source}

-- what is told of the slips in a plan: nothing where it has none
abbrev pub TellsSlips : Plan → List ℕ → Type 0
TellsSlips P text = AreLines text × (warnings_of P ≡ [] → text ≡ [])

-- what is told of the width of labels that were read; of others nothing
abbrev pub width_of_read : (file : List ℕ) → (least : Labels) → Result Labels (LabelCode × ℕ) → List ℕ
width_of_read file least (Ok labels) = width_line file whose.Labels (wider_cells (labelling_of labels) least) (length least)
width_of_read file least (Err fault) = []

-- what is told of the width of the labels in a file, where one is given
abbrev pub width_of_given : Plan → (least : Labels) → Option Source → List ℕ
width_of_given P least None = []
width_of_given P least (Some source) = width_of_read source.file.now least (labels_of_text P source.text.now)

-- what is told of the widths of a policy and of labels that are given, beside the least labels
abbrev pub TellsWidths : Source → Option Source → Plan → Policy → List ℕ → Type 0
TellsWidths config labels P policy text =
    (least : Labels) × AreLeast P least × (map (λ entry. entry.0) least ≡ cells P)
    × (text ≡ width_line config.file.now whose.Policy (wider_cells (labelling_of_policy P policy) least) (length least) ++ width_of_given P least labels)

-- what is warned of a plan and its policy, which the configuration in a file has, and of the labels in another, where they are given
abbrev pub Warns : Warned → Source → Option Source → Plan → Policy → Told → Type 0
Warns Nothing config labels P policy told = told ≡ whole []
Warns Slips config labels P policy told = IsTold (TellsSlips P) told
Warns SlipsAndWidths config labels P policy told = TellsBoth (IsTold (TellsSlips P)) (IsTold (TellsWidths config labels P policy)) told

-- a verdict is told as before, and behind what explains it these warnings; whatever else a command came to stays as it is
abbrev pub IsBehind : (before : Outcome) → (warnings : Told) → (after : Outcome) → Type 0
IsBehind (Judged verdict remarks) warnings (Judged judged all) = (judged ≡ verdict) × GoesOn (told_of remarks) warnings (told_of all)
IsBehind (JudgedWhole verdict failures remarks) warnings (JudgedWhole judged failed all) =
    (judged ≡ verdict) × (failed ≡ failures) × GoesOn (told_of remarks) warnings (told_of all)
IsBehind before warnings after = after ≡ before

-- the same with warnings that are told so
abbrev pub IsWarned : (Told → Type 0) → (before after : Outcome) → Type 0
IsWarned Tells before after = (warnings : Told) × Tells warnings × IsBehind before warnings after

-- how the least labels of a plan are written, with what is warned of it and its policy
abbrev pub ListsLabelsOf : Warned → Source → Plan → Policy → (before after : Option (List ℕ)) → Outcome → Type 0
ListsLabelsOf warned config P policy before after (outcomes.Warned remarks) = WritesLeast P before after (Ok tt) × Warns warned config None P policy (told_of remarks)
ListsLabelsOf warned config P policy before after (outcomes.Unwritten fault) = WritesLeast P before after (Err fault)
ListsLabelsOf warned config P policy before after _ = ⊥

-- how the least labels of a text's configuration are written: its fault is told and explained, and nothing is written; or they are those of its plan, with what is warned of it and its policy
abbrev pub ListsLabels : Warned → Source → Result ConfigText ConfigFault → (before after : Option (List ℕ)) → Outcome → Type 0
ListsLabels warned config said before after outcome =
    ((fault : FaultTold) × Fails fault said × IsFaulty fault outcome × (after ≡ before))
    ⊎ ((c : ConfigText) × (policy : Policy) × (said ≡ Ok c) × IsPolicyOf c policy × ListsLabelsOf warned config (plan_of c) policy before after outcome)

-- a command came to the verdict on a plan and its policy, which the configuration in a file has, and on the labels in another, and to all that fails where that is asked for
abbrev pub JudgesOn : (tells_all : Bool) → (config labels : Source) → Plan → Policy → Outcome → Type 0
JudgesOn tells_all config labels P policy outcome =
    RefusesOn labels P policy tells_all outcome
    ⊎ (IsVerdictOn P policy labels.text.now Accepted × ((remarks : Remarks) × (outcome ≡ Judged Accepted remarks) × (told_of remarks ≡ whole [])))

-- the same with what is warned of
abbrev pub IsChecked : (tells_all : Bool) → Warned → (config labels : Source) → Plan → Policy → Outcome → Type 0
IsChecked tells_all warned config labels P policy outcome =
    (judged : Outcome) × JudgesOn tells_all config labels P policy judged × IsWarned (Warns warned config (Some labels) P policy) judged outcome
