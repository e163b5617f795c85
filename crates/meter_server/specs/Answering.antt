-- What each command does with the files that it names, its input and its output (own profile throughout).
use Rattle.std.specs.Prelude.{◌≡◌, ◌⊎◌, ◌++◌, ℕ, List, Bool, true, false, not, ◌||◌, codes, string_bytes, Option, Some, None, Result, Ok, Err, ◌∷◌}
use Rattle.std.specs.Fmt.{decimal}
use Rattle.command_words.specs.Commands.{Asked, command_of}
use Rattle.command_words.specs.Commands.Asked.{Demo, Run, Edges, Label, Check, Why, Compare, Report, Quiet, Audit, Session, Serve, Trail, Encode, Decode}
use Rattle.command_words.specs.declared.fault.WordsFault.TheVariants as words
use Rattle.config_reader.specs.ConfigOf.{config_of}
use Rattle.config_rules.specs.Faultless.{IsPolicyOf}
use Rattle.config_rules.specs.PlanOf.{plan_of}
use Rattle.config_text.specs.Fault.{Fault as Faulty}
use Rattle.config_text.specs.Parts.{ConfigText}
use Rattle.verdict.specs.Judging.{IsVerdict, IsWholeVerdict}
use Rattle.verdict.specs.declared.Verdict.{Verdict}
use Rattle.verdict.specs.declared.Verdict.TheVariants.{Accepted}
use Rattle.flow_checker.specs.declared.check.Checked.{Checked}
use Rattle.line_server.specs.Lines.{Moment}
use Rattle.meter_theory.specs.Plan.{client_named}
use Rattle.meter_server.specs.Auditing.{AuditsNamed}
use Rattle.meter_server.specs.Comparing.{ComparesFiles}
use Rattle.meter_server.specs.Files.{ByFile, IsFile}
use Rattle.meter_server.specs.Looking.{AsksWhy}
use Rattle.meter_server.specs.Noticing.{NoticesAs}
use Rattle.meter_server.specs.Outcomes.{error_of, remarks_of, status_of, translated, unless_closed}
use Rattle.meter_server.specs.Program.{AnswersFrames, AnswersText, AnswersTrail, IsJudged, IsJudgedWhole, IsNoCommand, ListsEdges, TellsFault, TellsVerdict}
use Rattle.meter_server.specs.Remarks.{WritesError}
use Rattle.meter_server.specs.Reporting.{ReportsFile}
use Rattle.meter_server.specs.Trailing.{PrintsTrail}
use Rattle.meter_server.specs.Sources.{Given, MayGive, ReadsWhere, is_given_input, is_input}
use Rattle.meter_server.specs.declared.demo.TheConstants.{DEMO}
use Rattle.meter_server.specs.declared.outcome.Outcome.{Outcome}
use Rattle.meter_server.specs.declared.outcome.Outcome.TheVariants.{Done, Judged, JudgedWhole, Words, Unserved, Unbound, Unstored}
use Rattle.meter_server.specs.declared.texts.Source.{Source}
use Rattle.step_stores.specs.declared.fault.StoreFault.{StoreFault}
use Rattle.live_server.specs.declared.bind_fault.BindFault.{BindFault}
use Rattle.live_server.specs.declared.fault.ServerFault.{ServerFault}
use Rattle.live_server.specs.declared.fault.ServerFault.TheVariants as servers
use Rattle.step_words.specs.Translating.{Translates}
use Rattle.step_words.specs.declared.texts.Way.{Way}
use Rattle.step_words.specs.declared.texts.Way.TheVariants as ways
use Rattle.step_words.specs.declared.translating.TranslationFault.{TranslationFault}
use Rattle.text_files.specs.Files.{MayRead}
use Rattle.whole_writes.specs.declared.WriteFailed.{WriteFailed}
use Rattle.command_words.specs.declared.command.Warned.{Warned}
use Rattle.meter_theory.specs.Labels.{Policy}
use Rattle.meter_server.specs.Warning.{IsWarned, ListsLabels, Warns}

-- Verdicts

-- a command came to the verdict on the configuration in a file and the labels in another, and to all that fails where that is asked for
abbrev pub TellsJudgement : (tells_all : Bool) → Source → Source → Outcome → Type 0
TellsJudgement false config labels outcome = (verdict : Verdict) × IsVerdict (config_of config.text.now) labels.text.now verdict × IsJudged verdict outcome
TellsJudgement true config labels outcome =
    (verdict : Verdict) × (told : Option (List ℕ)) × IsWholeVerdict (config_of config.text.now) labels.text.now verdict told × IsJudgedWhole verdict told outcome

-- the configuration in a file has no fault
abbrev pub IsFaultless : Source → Type 0
IsFaultless config = (c : ConfigText) × (config_of config.text.now ≡ Ok c)

-- a command came to the fault of the configuration in a file, or else to the verdict on it and the labels in the file with this path
abbrev pub JudgesLabels : MayRead → (tells_all : Bool) → (labels : List ℕ) → Source → Outcome → Type 0
JudgesLabels reads tells_all labels config outcome = TellsFault config outcome ⊎ (IsFaultless config × ByFile reads labels (TellsJudgement tells_all config) (Unit {0}) outcome)

-- a command came to a verdict on the configuration and the labels in these two files: the labels are read only where the configuration has no fault
abbrev pub JudgesFiles : MayRead → (tells_all : Bool) → (config labels : List ℕ) → Outcome → Type 0
JudgesFiles reads tells_all config labels outcome = ByFile reads config (JudgesLabels reads tells_all labels) (Unit {0}) outcome

-- a command came to the verdict on the configuration in one file, which says this, and the labels in another, and to all that fails where that is asked for, with what is warned of
abbrev pub TellsChecked : (tells_all : Bool) → Warned → Source → ConfigText → Source → Outcome → Type 0
TellsChecked tells_all warned config c labels outcome =
    (judged : Outcome) × (policy : Policy) × TellsJudgement tells_all config labels judged × IsPolicyOf c policy
    × IsWarned (Warns warned config (Some labels) (plan_of c) policy) judged outcome

-- a command came to the fault of the configuration in a file, or else to the verdict on it and the labels in the file with this path, with what is warned of
abbrev pub ChecksLabels : MayRead → (tells_all : Bool) → Warned → (labels : List ℕ) → Source → Outcome → Type 0
ChecksLabels reads tells_all warned labels config outcome =
    TellsFault config outcome ⊎ ((c : ConfigText) × (config_of config.text.now ≡ Ok c) × ByFile reads labels (TellsChecked tells_all warned config c) (Unit {0}) outcome)

-- a command came to a verdict on the configuration and the labels in these two files, with what is warned of: the labels are read only where the configuration has no fault
abbrev pub ChecksFiles : MayRead → (tells_all : Bool) → Warned → (config labels : List ℕ) → Outcome → Type 0
ChecksFiles reads tells_all warned config labels outcome = ByFile reads config (ChecksLabels reads tells_all warned labels) (Unit {0}) outcome

-- what is accepted of the labels in one file for the configuration in another
pub record IsAcceptedOf (reads : MayRead) (config_path labels_path : List ℕ) (checked : Checked) : Type 0 where
  pub config : Source
  pub config_is : IsFile reads config_path config
  pub labels : Source
  pub labels_are : IsFile reads labels_path labels
  pub said : ConfigText
  pub faultless : config_of config.text.now ≡ Ok said
  pub plan_is : checked.plan ≡ plan_of said
  pub policy_is : IsPolicyOf said checked.policy
  pub accepted : IsVerdict (config_of config.text.now) labels.text.now Accepted

-- the place that was to keep the steps isn't opened, which a command tells; or memory was refused for that
abbrev pub TellsUnstored : (store : List ℕ) → StoreFault → Outcome → Type 0
TellsUnstored store why (Unstored path fault) = (string_bytes path ≡ store) × (fault ≡ why)
TellsUnstored store why outcome = outcome ≡ Unserved servers.Memory

-- an address and port as they are told
abbrev pub place_text : (address : List ℕ) → (port : ℕ) → List ℕ
place_text address port = address ++ 58 ∷ decimal port

-- connections can't be taken at an address and port, which a command tells; or memory was refused for that
abbrev pub TellsUnbound : (place : List ℕ) → BindFault → Outcome → Type 0
TellsUnbound place why (Unbound told fault) = (string_bytes told ≡ place) × (fault ≡ why)
TellsUnbound place why outcome = outcome ≡ Unserved servers.Memory

-- how a command ended whose live meter, at an address and port, ended so
abbrev pub EndsAt : {A : Type 0} → (place : List ℕ) → Result A ServerFault → Outcome → Type 0
EndsAt place (Ok closed) outcome = outcome ≡ Done
EndsAt place (Err (servers.Bind why)) outcome = TellsUnbound place why outcome
EndsAt place (Err fault) outcome = outcome ≡ Unserved fault

-- a live meter has ended, or didn't begin
abbrev pub IsEndOfServing : Outcome → Type 0
IsEndOfServing Done = Unit {0}
IsEndOfServing (Unserved fault) = Unit {0}
IsEndOfServing (Unbound place why) = Unit {0}
IsEndOfServing _ = ⊥

-- a live meter has ended, or didn't begin: where it was to keep its steps in a file that isn't opened, nothing was read of the input
abbrev pub IsServed : (store : Option (List ℕ)) → (unread left : Option (List ℕ)) → Outcome → Type 0
IsServed store unread left (Unstored path fault) = (store ≡ Some (string_bytes path)) × (left ≡ unread)
IsServed store unread left outcome = IsEndOfServing outcome

-- a command didn't come to accept
abbrev pub IsNoAcceptance : Outcome → Type 0
IsNoAcceptance (Judged Accepted text) = ⊥
IsNoAcceptance (JudgedWhole Accepted failures text) = ⊥
IsNoAcceptance outcome = Unit {0}

-- labels in one file aren't accepted for the configuration in another, or one of these isn't read, and a command tells that
abbrev pub RefusesFiles : MayRead → (tells_all : Bool) → (config labels : List ℕ) → Outcome → Type 0
RefusesFiles reads tells_all config labels outcome = JudgesFiles reads tells_all config labels outcome × IsNoAcceptance outcome

-- connections are answered by the configuration in one file, where the labels in another are accepted for it; else a verdict is told, and nothing is read of the input
abbrev pub ServesFiles : MayRead → (config labels : List ℕ) → (store : Option (List ℕ)) → (unread left : Option (List ℕ)) → Outcome → Type 0
ServesFiles reads config labels store unread left outcome =
    (RefusesFiles reads false config labels outcome × (left ≡ unread)) ⊎ (((checked : Checked) × IsAcceptedOf reads config labels checked) × IsServed store unread left outcome)

-- it is told of each line of an input whether the client of this name could notice it, by the configuration in one file, where the labels in another are accepted for it; else a verdict is told, and nothing is read of the input
abbrev pub NoticesFiles : MayRead → (config labels client : List ℕ) → (before after : Moment) → Outcome → Type 0
NoticesFiles reads config labels client before after outcome =
    (RefusesFiles reads false config labels outcome × (after ≡ before))
    ⊎ ((checked : Checked) × IsAcceptedOf reads config labels checked × NoticesAs checked client (client_named checked.plan client) before after outcome)

-- Commands

-- how the lines of an input are answered by the configuration in a file
abbrev pub RunsFile : MayRead → List ℕ → (before after : Moment) → Outcome → Type 0
RunsFile reads path before after outcome = ByFile reads path (λ config. AnswersText config (config_of config.text.now) before after) (after ≡ before) outcome

-- the same of the lines of a trail
abbrev pub RunsTrailFile : MayRead → List ℕ → (before after : Moment) → Outcome → Type 0
RunsTrailFile reads path before after outcome = ByFile reads path (λ config. AnswersTrail config (config_of config.text.now) before after) (after ≡ before) outcome

-- how the frames of an input are answered by it
abbrev pub ConnectsFile : MayRead → List ℕ → (before after : Moment) → Outcome → Type 0
ConnectsFile reads path before after outcome = ByFile reads path (λ config. AnswersFrames config (config_of config.text.now) before after) (after ≡ before) outcome

-- how words are made into hex: those of values, or else of steps
abbrev pub encoding_of : (is_value : Bool) → Way
encoding_of true = ways.EncodeValues
encoding_of false = ways.Encode

-- how hex is made into words: that of values, or else of steps and replies
abbrev pub decoding_of : (is_value : Bool) → Way
decoding_of true = ways.DecodeValues
decoding_of false = ways.Decode

-- how an input is translated
abbrev pub TellsTranslation : Way → (before after : Moment) → Outcome → Type 0
TellsTranslation way before after outcome =
    (result : Result (Unit {0}) TranslationFault) × Translates way before.unread after.unread before.written after.written result × (outcome ≡ translated result)

-- a list of what the configuration in a text has
abbrev pub Lister : Type 1
Lister = Source → Result ConfigText Faulty → (before after : Option (List ℕ)) → Outcome → Type 0

-- how what the configuration in a file has is listed
abbrev pub ListsFile : Lister → MayRead → List ℕ → (before after : Option (List ℕ)) → Outcome → Type 0
ListsFile Lists reads path before after outcome = ByFile reads path (λ config. Lists config (config_of config.text.now) before after) (after ≡ before) outcome

-- what a command does; of a file that is named `-` the commands that don't answer lines or frames read the input
abbrev pub Answers : MayRead → Asked → (before after : Moment) → Outcome → Type 0
Answers reads (Demo is_verbose) before after outcome =
    (demo : Source) × (demo.file.now ≡ codes "demo.toml") × (demo.text.now ≡ DEMO.now) × AnswersText demo (config_of demo.text.now) before after outcome
Answers reads (Run path is_verbose true) before after outcome = RunsTrailFile reads path before after outcome
Answers reads (Run path is_verbose false) before after outcome = RunsFile reads path before after outcome
Answers reads (Edges path form) before after outcome =
    (given : Option Given) × ReadsWhere (is_input path) before.unread after.unread given × ListsFile (ListsEdges form) (MayGive reads given) path before.written after.written outcome
Answers reads (Label path warned) before after outcome =
    (given : Option Given) × ReadsWhere (is_input path) before.unread after.unread given × ListsFile (ListsLabels warned) (MayGive reads given) path before.written after.written outcome
Answers reads (Check config labels tells_all warned) before after outcome =
    (given : Option Given) × ReadsWhere (is_input config || is_input labels) before.unread after.unread given × (after.written ≡ before.written) × ChecksFiles (MayGive reads given) tells_all warned config labels outcome
Answers reads (Why path client cell) before after outcome =
    (given : Option Given) × ReadsWhere (is_input path) before.unread after.unread given × ListsFile (AsksWhy client cell) (MayGive reads given) path before.written after.written outcome
Answers reads (Compare old new) before after outcome =
    (given : Option Given) × ReadsWhere (is_input old || is_input new) before.unread after.unread given × ComparesFiles (MayGive reads given) old new before.written after.written outcome
Answers reads (Report config labels against form) before after outcome =
    (given : Option Given) × ReadsWhere (is_input config || (is_given_input labels || is_given_input against)) before.unread after.unread given
    × ReportsFile (MayGive reads given) form (record { labels = labels; old = against }) config before.written after.written outcome
Answers reads (Quiet config labels client is_verbose) before after outcome = NoticesFiles reads config labels client before after outcome
Answers reads (Audit workers names names_file explains tells_progress) before after outcome =
    (given : Option Given) × ReadsWhere (is_given_input names_file) before.unread after.unread given × (after.written ≡ before.written)
    × AuditsNamed reads (MayGive reads given) explains names names_file outcome
Answers reads (Session path) before after outcome = ConnectsFile reads path before after outcome
Answers reads (Serve config labels served) before after outcome =
    (after.written ≡ before.written) × ServesFiles reads config labels served.store before.unread after.unread outcome
Answers reads (Trail path client since is_json) before after outcome =
    (after.unread ≡ before.unread) × PrintsTrail reads path client since is_json before.written after.written outcome
Answers reads (Encode is_value) before after outcome = TellsTranslation (encoding_of is_value) before after outcome
Answers reads (Decode is_value) before after outcome = TellsTranslation (decoding_of is_value) before after outcome

-- memory was refused before it was known what the words ask for, and nothing was done
abbrev pub IsOutOfMemory : (before after : Moment) → Outcome → Type 0
IsOutOfMemory before after outcome = (outcome ≡ Words words.Memory) × (after ≡ before)

-- what is done for words, the program's name first: what they ask for; or they are no command
pub record Does (reads : MayRead) (ws : List (List ℕ)) (before after : Moment) (outcome : Outcome) : Type 0 where
  pub command : (asked : Asked) → command_of ws ≡ Some asked → Answers reads asked before after outcome ⊎ IsOutOfMemory before after outcome
  pub no_command : command_of ws ≡ None → IsNoCommand ws outcome × (after ≡ before)

-- whether nothing is written on standard error until the command has ended: it isn't asked to tell of lines or of its progress, and serves no meter
abbrev pub is_quiet : Option Asked → Bool
is_quiet (Some (Demo is_verbose)) = not is_verbose
is_quiet (Some (Run path is_verbose reads_trail)) = not is_verbose
is_quiet (Some (Quiet config labels client is_verbose)) = not is_verbose
is_quiet (Some (Audit workers names names_file explains tells_progress)) = not tells_progress
is_quiet (Some (Serve config labels served)) = false
is_quiet _ = true

-- how a command ended is told on standard error; or that there was no memory for the text of that, which remarks don't want
abbrev pub TellsError : Outcome → (before after : Option (List ℕ)) → Result (Unit {0}) WriteFailed → Type 0
TellsError outcome before after written =
    WritesError (error_of outcome) before after written ⊎ ((remarks_of outcome ≡ None) × WritesError (codes "cosem-flow: out of memory\n") before after written)

-- what the program does for words, up to its exit status: what they ask for, and then it tells on standard output and standard error how that ended
pub record Runs (reads : MayRead) (ws : List (List ℕ)) (before after : Moment) (error_before error_after : Option (List ℕ)) (status : ℕ) : Type 0 where
  pub between : Moment
  pub error_between : Option (List ℕ)
  pub outcome : Outcome
  pub does : Does reads ws before between outcome
  pub quiet : is_quiet (command_of ws) ≡ true → error_between ≡ error_before
  pub told : Outcome
  pub tells : TellsVerdict outcome between.written after.written told
  pub is_closed : Bool
  pub written : Result (Unit {0}) WriteFailed
  pub explains : TellsError (unless_closed told is_closed) error_between error_after written
  pub left : after.unread ≡ between.unread
  pub ends : status ≡ status_of (unless_closed told is_closed)
