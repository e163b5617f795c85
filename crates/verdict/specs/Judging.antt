-- What a verdict says of a configuration's text and of one of labels.
use Rattle.std.specs.Prelude.{◌≡◌, ℕ, Bool, true, false, List, [], Option, None, Some, Result, Ok}
use Rattle.config_rules.specs.Faultless.{IsPolicyOf}
use Rattle.config_rules.specs.PlanOf.{plan_of}
use Rattle.config_text.specs.Fault.{Fault as ConfigFault}
use Rattle.config_text.specs.Refusals.{Fails}
use Rattle.config_text.specs.Parts.{ConfigText}
use Rattle.flow_checker.specs.Answer.{IsRefusedAs}
use Rattle.flow_checker.specs.Failures.{failures}
use Rattle.label_certificate.specs.Faults as label_faults
use Rattle.label_certificate.specs.LabelText.{labels_of_text}
use Rattle.meter_theory.specs.Labels as theory
use Rattle.meter_theory.specs.Labels.{Admits, Policy, labelling_of_policy}
use Rattle.meter_theory.specs.Plan.{Plan}
use Rattle.verdict.specs.Lines.{failure_lines}
use Rattle.verdict.specs.declared.Verdict.{Verdict}
use Rattle.verdict.specs.declared.Verdict.TheVariants.{Accepted, Config, Labels, Refused}

-- what a verdict says of the labels that a text holds for a plan and its policy: they are admitted; or the text has this fault; or the first clause that fails is told, and what fails it first (own profile)
abbrev pub IsVerdictOn : Plan → Policy → List ℕ → Verdict → Type 0
IsVerdictOn P policy text Accepted = (labels : theory.Labels) × (labels_of_text P text ≡ Ok labels) × Admits P (labelling_of_policy P policy) labels
IsVerdictOn P policy text (Labels fault) = label_faults.Fails fault (labels_of_text P text)
IsVerdictOn P policy text (Refused refused) = (labels : theory.Labels) × (labels_of_text P text ≡ Ok labels) × IsRefusedAs P (labelling_of_policy P policy) labels refused
IsVerdictOn P policy text (Config fault) = ⊥

-- what a verdict says of a configuration's text and of one of labels: the first has this fault, or it says what the second is judged by (own profile)
abbrev pub IsVerdict : Result ConfigText ConfigFault → List ℕ → Verdict → Type 0
IsVerdict said text (Config fault) = Fails fault said
IsVerdict said text verdict = (c : ConfigText) × (policy : Policy) × (said ≡ Ok c) × IsPolicyOf c policy × IsVerdictOn (plan_of c) policy text verdict

-- what is told of all that fails of the labels that a text holds, nothing where there was no memory for that (own profile)
abbrev pub IsAllOf : Plan → Policy → theory.Labels → Option (List ℕ) → Type 0
IsAllOf P policy labels None = Unit {0}
IsAllOf P policy labels (Some told) = told ≡ failure_lines P (failures P (labelling_of_policy P policy) labels)

-- what a verdict says of the labels that a text holds for a plan and its policy, and behind a refusal what is told of all that fails (own profile)
abbrev pub IsWholeVerdictOn : Plan → Policy → List ℕ → Verdict → Option (List ℕ) → Type 0
IsWholeVerdictOn P policy text (Refused refused) told =
    (labels : theory.Labels) × (labels_of_text P text ≡ Ok labels) × IsRefusedAs P (labelling_of_policy P policy) labels refused × IsAllOf P policy labels told
IsWholeVerdictOn P policy text verdict told = IsVerdictOn P policy text verdict × (told ≡ Some [])

-- the same of a configuration's text and of one of labels: of a configuration with a fault nothing more is told (own profile)
abbrev pub IsWholeVerdict : Result ConfigText ConfigFault → List ℕ → Verdict → Option (List ℕ) → Type 0
IsWholeVerdict said text (Config fault) told = Fails fault said × (told ≡ Some [])
IsWholeVerdict said text verdict told = (c : ConfigText) × (policy : Policy) × (said ≡ Ok c) × IsPolicyOf c policy × IsWholeVerdictOn (plan_of c) policy text verdict told

-- whether a verdict accepts (own profile)
abbrev pub is_accepted : Verdict → Bool
is_accepted Accepted = true
is_accepted _ = false
