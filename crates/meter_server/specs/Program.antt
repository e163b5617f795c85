-- What the program does with its words (own profile throughout).
use Rattle.std.specs.Prelude.{◌≡◌, ◌≢◌, ℕ, Bool, true, false, List, [], string_bytes, Option, None, Some, ◌⊎◌, Result, Ok, Err}
use Rattle.clap.specs.Words.{IsAmong}
use Rattle.clap.specs.declared.error.kind.ErrorKind.TheVariants.{DisplayHelp, DisplayVersion}
use Rattle.command_words.specs.CommandLine.{kinds_of}
use Rattle.command_words.specs.Commands.{command_of}
use Rattle.command_words.specs.declared.command.EdgesForm.{EdgesForm}
use Rattle.command_words.specs.declared.command.EdgesForm.TheVariants as forms
use Rattle.command_words.specs.Faults.{HasMistake}
use Rattle.command_words.specs.declared.fault.WordsFault.TheVariants as words
use Rattle.config_rules.specs.PlanOf.{plan_of}
use Rattle.config_reader.specs.ConfigOf.{config_of}
use Rattle.config_text.specs.Fault.{Fault as ConfigFault}
use Rattle.config_text.specs.Refusals.{Fails}
use Rattle.config_text.specs.Parts.{ConfigText}
use Rattle.config_text.specs.declared.fault.ConfigFault.{ConfigFault as FaultTold}
use Rattle.frame_server.specs.Alone.{ServesAlone}
use Rattle.meter_theory.specs.Edges.{edges}
use Rattle.meter_theory.specs.Labels.{Policy}
use Rattle.meter_theory.specs.Plan.{Plan}
use Rattle.line_server.specs.Lines.{Moment}
use Rattle.meter_server.specs.Outcomes.{output_of}
use Rattle.trail_lines.specs.Running.{RunsTrail}
use Rattle.line_server.specs.declared.fault.LineFault.{LineFault}
use Rattle.line_server.specs.Running.{RunsLines}
use Rattle.meter_server.specs.Remarks.{AreTold, Told, told_of, whole}
use Rattle.meter_server.specs.declared.outcome.Outcome.{Outcome}
use Rattle.meter_server.specs.declared.outcome.Outcome.TheVariants.{Done, Judged, JudgedWhole, Words, Fault, Broken, Unwritten}
use Rattle.meter_server.specs.declared.texts.Source.{Source}
use Rattle.whole_writes.specs.Written.{WritesText}
use Rattle.flow_forms.specs.Listing.{dot_text, edges_text}
use Rattle.whole_writes.specs.declared.fault.ListFault.{ListFault}
use Rattle.whole_writes.specs.declared.fault.ListFault.TheVariants as lists
use Rattle.verdict.specs.Judging.{IsVerdictOn, IsWholeVerdictOn}
use Rattle.verdict.specs.declared.Verdict.{Verdict}
use Rattle.verdict.specs.declared.Verdict.TheVariants.{Accepted, Config}

-- Words

-- words that are no command, and ask for neither help nor the version
pub record AreMistaken (words : List (List ℕ)) : Type 0 where
  pub no_command : command_of words ≡ None
  pub no_help : ¬ IsAmong DisplayHelp (kinds_of words)
  pub no_version : ¬ IsAmong DisplayVersion (kinds_of words)

-- words that ask for help or the version, with which nothing else is wrong
pub record AskForHelp (words : List (List ℕ)) : Type 0 where
  pub no_command : command_of words ≡ None
  pub no_mistake : ¬ HasMistake (kinds_of words)

-- how words ended that are no command: with help or the version, which they ask for, with what is wrong with them, or with want of memory
abbrev pub IsNoCommand : List (List ℕ) → Outcome → Type 0
IsNoCommand ws (Words (words.Help text)) = IsAmong DisplayHelp (kinds_of ws)
IsNoCommand ws (Words (words.Version text)) = IsAmong DisplayVersion (kinds_of ws)
IsNoCommand ws (Words (words.Usage text)) = HasMistake (kinds_of ws)
IsNoCommand ws (Words words.Memory) = Unit {0}
IsNoCommand ws _ = ⊥

-- how a command ended once its verdict was written: as before; or the verdict, or the rest of it, couldn't be written
abbrev pub TellsVerdict : Outcome → (before after : Option (List ℕ)) → Outcome → Type 0
TellsVerdict outcome before after told = ((told ≡ outcome) × WritesText (output_of outcome) before after (Ok tt)) ⊎ ((fault : ListFault) × (told ≡ Unwritten fault) × WritesText (output_of outcome) before after (Err fault))

-- Explanations

-- what explains a verdict is told: nothing where it accepts
abbrev pub ExplainsVerdict : Verdict → Told → Type 0
ExplainsVerdict Accepted told = told ≡ whole []
ExplainsVerdict _ told = AreTold told

-- a command came to this verdict, which is explained
abbrev pub IsJudged : Verdict → Outcome → Type 0
IsJudged verdict (Judged judged remarks) = (judged ≡ verdict) × ExplainsVerdict verdict (told_of remarks)
IsJudged verdict _ = ⊥

-- a command came to this verdict, which is explained, and to what is told of all that fails; or there was no memory for that
abbrev pub IsJudgedWhole : Verdict → Option (List ℕ) → Outcome → Type 0
IsJudgedWhole verdict told (Judged judged remarks) = (told ≡ Some []) × IsJudged verdict (Judged judged remarks)
IsJudgedWhole verdict told (JudgedWhole judged failures remarks) = (told ≡ Some (string_bytes failures)) × IsJudged verdict (Judged judged remarks)
IsJudgedWhole verdict told (Unwritten lists.Memory) = told ≡ None
IsJudgedWhole verdict told _ = ⊥

-- a command came to a verdict that doesn't accept, on a plan and its policy, which the configuration in a file has, and on the labels in another; and to all that fails where that is asked for
abbrev pub RefusesOn : Source → Plan → Policy → (tells_all : Bool) → Outcome → Type 0
RefusesOn labels P policy false outcome = (verdict : Verdict) × IsVerdictOn P policy labels.text.now verdict × (verdict ≢ Accepted) × IsJudged verdict outcome
RefusesOn labels P policy true outcome =
    (verdict : Verdict) × (told : Option (List ℕ)) × IsWholeVerdictOn P policy labels.text.now verdict told × (verdict ≢ Accepted) × IsJudgedWhole verdict told outcome

-- a command came to this fault of the configuration in a file, which is explained
abbrev pub IsFaulty : FaultTold → Outcome → Type 0
IsFaulty fault (Judged judged remarks) = (judged ≡ Config fault) × AreTold (told_of remarks)
IsFaulty fault _ = ⊥

-- a command came to the fault of the configuration in a file
abbrev pub TellsFault : Source → Outcome → Type 0
TellsFault config outcome = (fault : FaultTold) × Fails fault (config_of config.text.now) × IsFaulty fault outcome

-- Texts

-- how the lines of an input are answered by the configuration that a text says: its fault is told and explained, and nothing is read or written; or the lines run so over its plan
abbrev pub AnswersBy : (Plan → Moment → Moment → Result ℕ LineFault → Type 0) → Source → Result ConfigText ConfigFault → Moment → Moment → Outcome → Type 0
AnswersBy Runs config said before after (Judged (Config fault) remarks) = Fails fault said × (after ≡ before) × AreTold (told_of remarks)
AnswersBy Runs config said before after Done = (c : ConfigText) × (said ≡ Ok c) × (count : ℕ) × Runs (plan_of c) before after (Ok count)
AnswersBy Runs config said before after (Fault fault) = (c : ConfigText) × (said ≡ Ok c) × Runs (plan_of c) before after (Err fault)
AnswersBy Runs config said before after _ = ⊥

-- the same of step lines
abbrev pub AnswersText : Source → Result ConfigText ConfigFault → Moment → Moment → Outcome → Type 0
AnswersText config said before after outcome = AnswersBy RunsLines config said before after outcome

-- the same of the lines of a trail
abbrev pub AnswersTrail : Source → Result ConfigText ConfigFault → Moment → Moment → Outcome → Type 0
AnswersTrail config said before after outcome = AnswersBy RunsTrail config said before after outcome

-- how the frames of a connection are answered by it: its fault is told and explained, and nothing is read or written; or they are answered by its plan
abbrev pub AnswersFrames : Source → Result ConfigText ConfigFault → Moment → Moment → Outcome → Type 0
AnswersFrames config said before after (Judged (Config fault) remarks) = Fails fault said × (after ≡ before) × AreTold (told_of remarks)
AnswersFrames config said before after Done = (c : ConfigText) × (said ≡ Ok c) × (count : ℕ) × ServesAlone (plan_of c) before.unread after.unread before.written after.written (Ok count)
AnswersFrames config said before after (Broken fault) = (c : ConfigText) × (said ≡ Ok c) × ServesAlone (plan_of c) before.unread after.unread before.written after.written (Err fault)
AnswersFrames config said before after _ = ⊥

-- how what the plan of a text's configuration has is listed: its fault is told and explained, and nothing is written; or the list is written as this says
abbrev pub Lists : (ConfigText → Result (Unit {0}) ListFault → Type 0) → Source → Result ConfigText ConfigFault → (before after : Option (List ℕ)) → Outcome → Type 0
Lists Writes config said before after (Judged (Config fault) remarks) = Fails fault said × (after ≡ before) × AreTold (told_of remarks)
Lists Writes config said before after Done = (c : ConfigText) × (said ≡ Ok c) × Writes c (Ok tt)
Lists Writes config said before after (Unwritten fault) = (c : ConfigText) × (said ≡ Ok c) × Writes c (Err fault)
Lists Writes config said before after _ = ⊥

-- the edges of a plan in a form: each in a line of its own, or as a graph that Graphviz reads
abbrev pub edges_in : EdgesForm → Plan → List ℕ
edges_in forms.Text P = edges_text (edges P)
edges_in forms.Dot P = dot_text (edges P)

-- its edges in a form
abbrev pub ListsEdges : EdgesForm → Source → Result ConfigText ConfigFault → (before after : Option (List ℕ)) → Outcome → Type 0
ListsEdges form config said before after outcome = Lists (λ c. WritesText (edges_in form (plan_of c)) before after) config said before after outcome
