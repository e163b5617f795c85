-- Reports on who may change and who may learn what. All of it is own profile. Texts are lists of bytes.
use Rattle.std.specs.Prelude.{◌≡◌, ◌≢◌, ◌⊎◌, ℕ, Bool, List, [], ◌∷◌, ◌++◌, is_some, option_map, string_bytes, unwrap_or, Option, None, Some, Result, Ok, Err}
use Rattle.std.specs.Io.KnownBytes.{Appends}
use Rattle.std.specs.Path.{path_file_name}
use Rattle.command_words.specs.declared.command.ReportForm.{ReportForm}
use Rattle.command_words.specs.declared.command.ReportForm.TheVariants as forms
use Rattle.config_reader.specs.ConfigOf.{config_of}
use Rattle.config_rules.specs.Faultless.{IsPolicyOf}
use Rattle.config_rules.specs.PlanOf.{plan_of}
use Rattle.config_text.specs.Parts.{ConfigText}
use Rattle.flow_changes.specs.Written.{IsComparedWith}
use Rattle.flow_changes.specs.declared.compare.Comparison.{Comparison}
use Rattle.flow_checker.specs.Answer.{IsRefusedAs}
use Rattle.flow_forms.specs.Csv.{IsCsv}
use Rattle.flow_forms.specs.Html.{IsHtml}
use Rattle.flow_forms.specs.Json.{IsJson}
use Rattle.flow_page.specs.declared.page.Heading.{Heading}
use Rattle.label_certificate.specs.Faults as label_faults
use Rattle.label_certificate.specs.LabelText.{labels_of_text}
use Rattle.label_certificate.specs.declared.fault.LabelFault.{LabelFault}
use Rattle.meter_theory.specs.Labels.{Admits, Labels, Policy, labelling_of_policy}
use Rattle.meter_theory.specs.Plan.{Plan}
use Rattle.flow_map.specs.Map.{AreLeastOf}
use Rattle.whole_writes.specs.Written.{WritesText}
use Rattle.whole_writes.specs.declared.fault.ListFault.{ListFault}
use Rattle.whole_writes.specs.declared.fault.ListFault.TheVariants as faults
use Rattle.text_files.specs.Files.{MayRead}
use Rattle.verdict.specs.Judging.{is_accepted}
use Rattle.verdict.specs.Lines.{verdict_line}
use Rattle.verdict.specs.declared.Verdict.{Verdict}
use Rattle.verdict.specs.declared.Verdict.TheVariants as verdicts
use Rattle.meter_server.specs.Comparing.{FailsSide, IsMadeOf}
use Rattle.meter_server.specs.Files.{ByFile, IsFile, IsUnread}
use Rattle.meter_server.specs.Outcomes.{listed}
use Rattle.meter_server.specs.Program.{IsJudged, TellsFault}
use Rattle.meter_server.specs.declared.outcome.Outcome.{Outcome}
use Rattle.meter_server.specs.declared.outcome.Outcome.TheVariants.{Unwritten}
use Rattle.meter_server.specs.declared.outcome.Side.TheVariants as sides
use Rattle.meter_server.specs.declared.reporting.Beside.{Beside}
use Rattle.meter_server.specs.declared.texts.Source.{Source}

-- a line without the newline at its end, if it has one
abbrev pub IsWithoutEnd : (line text : List ℕ) → Type 0
IsWithoutEnd line text = (line ≡ text ++ 10 ∷ []) ⊎ (((front : List ℕ) → line ≢ front ++ 10 ∷ []) × (text ≡ line))

-- the name of the file with this path: the part behind its directories, if it has one
abbrev pub name_of : (path : List ℕ) → List ℕ
name_of path = unwrap_or (path_file_name path) path

-- what a page says at its head of the configuration in the file with this path, and of the verdict on labels that are given or not
pub record IsHeading (path : List ℕ) (given : Bool) (verdict : Verdict) (heading : Heading) : Type 0 where
  pub name_is : string_bytes heading.name ≡ name_of path
  pub verdict_is : IsWithoutEnd (verdict_line verdict) (string_bytes heading.verdict)
  pub accepted_is : heading.accepted ≡ is_accepted verdict
  pub given_is : heading.given_labels ≡ given

-- the text of a report as JSON, with this verdict
abbrev pub IsJsonReport : Plan → Policy → Verdict → List ℕ → Type 0
IsJsonReport P Q verdict text = (line : List ℕ) × IsWithoutEnd (verdict_line verdict) line × IsJson P Q line text

-- a plan and a policy with which those of a report are compared, where there are any
abbrev pub Against : Type 0
Against = Option (Plan × Policy)

-- the text of a report in this form, with this verdict on labels that are given or not, of the configuration in the file with this path, and
-- with what has changed where that is known
abbrev pub IsReport : ReportForm → (path : List ℕ) → (given : Bool) → Option Comparison → Plan → Policy → Verdict → List ℕ → Type 0
IsReport forms.Html path given changes P Q verdict text = (heading : Heading) × IsHeading path given verdict heading × IsHtml P Q changes heading text
IsReport forms.Csv path given changes P Q verdict text = IsCsv P Q text
IsReport forms.Json path given changes P Q verdict text = IsJsonReport P Q verdict text

-- it was written, or a beginning of it; it is made before the first byte is written
abbrev pub WritesReport : ReportForm → (path : List ℕ) → (given : Bool) → Option Comparison → Plan → Policy → Verdict → (before after : Option (List ℕ)) → Result (Unit {0}) ListFault → Type 0
WritesReport form path given changes P Q verdict before after (Err faults.Memory) = Appends before after []
WritesReport form path given changes P Q verdict before after r = (text : List ℕ) × IsReport form path given changes P Q verdict text × WritesText text before after r

-- a command had no memory for its report, and nothing was written
abbrev pub IsUnwrittenForMemory : Outcome → Type 0
IsUnwrittenForMemory outcome = outcome ≡ Unwritten faults.Memory

-- labels that are judged for a plan and its policy have this verdict
abbrev pub IsVerdictOf : Plan → Policy → Labels → Verdict → Type 0
IsVerdictOf P Q labels verdicts.Accepted = Admits P (labelling_of_policy P Q) labels
IsVerdictOf P Q labels (verdicts.Refused refused) = IsRefusedAs P (labelling_of_policy P Q) labels refused
IsVerdictOf P Q labels _ = ⊥

-- a report is written with the verdict on labels; or there was no memory to come to that
abbrev pub ReportsOn : ReportForm → (path : List ℕ) → (given : Bool) → Option Comparison → Plan → Policy → Labels → (before after : Option (List ℕ)) → Outcome → Type 0
ReportsOn form path given changes P Q labels before after outcome =
    ((verdict : Verdict) × IsVerdictOf P Q labels verdict × (result : Result (Unit {0}) ListFault) × WritesReport form path given changes P Q verdict before after result × (outcome ≡ listed result))
    ⊎ (IsUnwrittenForMemory outcome × (after ≡ before))

-- the labels in the file with this path
abbrev pub AreLabelsIn : MayRead → Plan → List ℕ → Labels → Type 0
AreLabelsIn reads P path labels = (source : Source) × IsFile reads path source × (labels_of_text P source.text.now ≡ Ok labels)

-- the file with this path isn't read, or its labels have a fault, and a command tells that
abbrev pub FailsLabelsIn : MayRead → Source → Plan → List ℕ → Outcome → Type 0
FailsLabelsIn reads config P path outcome =
    IsUnread reads path outcome
    ⊎ ((source : Source) × IsFile reads path source × (fault : LabelFault) × label_faults.Fails fault (labels_of_text P source.text.now) × IsJudged (verdicts.Labels fault) outcome)

-- the labels that are given: those in a file, where its path is
abbrev pub AreLabelsOf : MayRead → Plan → Option (List ℕ) → (given : Option Labels) → Type 0
AreLabelsOf reads P None given = given ≡ None
AreLabelsOf reads P (Some path) given = (labels : Labels) × AreLabelsIn reads P path labels × (given ≡ Some labels)

-- they can't be read, and a command tells that
abbrev pub FailsLabels : MayRead → Source → Plan → Option (List ℕ) → Outcome → Type 0
FailsLabels reads config P None outcome = ⊥
FailsLabels reads config P (Some path) outcome = FailsLabelsIn reads config P path outcome

-- the labels that are judged: those that are given, or else the least ones
abbrev pub AreJudged : Plan → (given : Option Labels) → Labels → Type 0
AreJudged P None labels = AreLeastOf P labels
AreJudged P (Some given) labels = labels ≡ given

-- a report is written with the verdict on these, and with what has changed where that is known
abbrev pub ReportsChanges : ReportForm → (path : List ℕ) → Option Comparison → Plan → Policy → (given : Option Labels) → (before after : Option (List ℕ)) → Outcome → Type 0
ReportsChanges form path changes P Q given before after outcome =
    (labels : Labels) × AreJudged P given labels × ReportsOn form path (is_some given) changes P Q labels before after outcome

-- the same where it is compared with a plan and a policy; or there was no memory for what is known of the configurations
abbrev pub ReportsSubject : ReportForm → (path : List ℕ) → Against → Plan → Policy → (given : Option Labels) → (before after : Option (List ℕ)) → Outcome → Type 0
ReportsSubject form path against P Q given before after outcome =
    ((changes : Option Comparison) × IsComparedWith against P Q changes × ReportsChanges form path changes P Q given before after outcome)
    ⊎ (IsUnwrittenForMemory outcome × (after ≡ before))

-- with what a report is compared: the configuration in a file, where its path is given
abbrev pub IsAgainst : MayRead → Option (List ℕ) → Against → Type 0
IsAgainst reads None against = against ≡ None
IsAgainst reads (Some path) against = (made : Plan × Policy) × IsMadeOf reads path made × (against ≡ Some made)

-- that file isn't read, or its configuration has a fault, and a command tells that
abbrev pub FailsAgainst : MayRead → Option (List ℕ) → Outcome → Type 0
FailsAgainst reads None outcome = ⊥
FailsAgainst reads (Some path) outcome = FailsSide reads sides.Old path outcome

-- how the report on a plan and its policy is written with these labels, compared with the configuration in a file where its path is given
abbrev pub ReportsAgainst : MayRead → ReportForm → (old : Option (List ℕ)) → (path : List ℕ) → (before after : Option (List ℕ)) → Plan → Policy → (given : Option Labels) → Outcome → Type 0
ReportsAgainst reads form old path before after P Q given outcome =
    (FailsAgainst reads old outcome × (after ≡ before))
    ⊎ ((against : Against) × IsAgainst reads old against × ReportsSubject form path against P Q given before after outcome)

-- the paths of the files beside the configuration that a report is on: those of labels and of an old configuration, where they are given
pub record Paths : Type 0 where
  pub labels : Option (List ℕ)
  pub old : Option (List ℕ)

abbrev pub paths_of : Beside → Paths
paths_of beside = record { labels = option_map (λ path. path.now) beside.labels; old = option_map (λ path. path.now) beside.old }

-- how the report on a plan and its policy is written, which the configuration in a file has: the labels are read first
abbrev pub ReportsPlan : MayRead → ReportForm → Paths → (before after : Option (List ℕ)) → Source → Plan → Policy → Outcome → Type 0
ReportsPlan reads form paths before after config P Q outcome =
    (FailsLabels reads config P paths.labels outcome × (after ≡ before))
    ⊎ ((given : Option Labels) × AreLabelsOf reads P paths.labels given
    × ReportsAgainst reads form paths.old config.file.now before after P Q given outcome)

-- how the report on the configuration in a file is written: its fault is told and explained, or the report on its plan and policy is written
abbrev pub ReportsSource : MayRead → ReportForm → Paths → (before after : Option (List ℕ)) → Source → Outcome → Type 0
ReportsSource reads form paths before after config outcome =
    (TellsFault config outcome × (after ≡ before))
    ⊎ ((said : ConfigText) × (config_of config.text.now ≡ Ok said) × (Q : Policy) × IsPolicyOf said Q × ReportsPlan reads form paths before after config (plan_of said) Q outcome)

-- how the report on the configuration in the file with this path is written
abbrev pub ReportsFile : MayRead → ReportForm → Paths → List ℕ → (before after : Option (List ℕ)) → Outcome → Type 0
ReportsFile reads form paths path before after outcome = ByFile reads path (ReportsSource reads form paths before after) (after ≡ before) outcome
