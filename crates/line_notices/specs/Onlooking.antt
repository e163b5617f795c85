-- Whether a client could notice the lines that are read. All of it is own profile. Texts are lists of bytes.
use Rattle.std.specs.Prelude.{◌≡◌, ℕ, Bool, true, false, cond, is_some, List, [], ◌++◌, codes, Option, Result}
use Rattle.std.specs.Io.KnownBytes.{Appends}
use Rattle.std.specs.List.{flat_map, list_all}
use Rattle.flow_checker.specs.Accepted.{Accepted}
use Rattle.meter_theory.specs.Labels.{Policy}
use Rattle.meter_theory.specs.Plan.{Plan}
use Rattle.meter_theory.specs.Steps.{Step}
use Rattle.line_server.specs.Answering.{steps_of}
use Rattle.line_server.specs.LineMeter.{StopsOver}
use Rattle.line_server.specs.Lines.{Moment}
use Rattle.line_server.specs.Running.{IsReadable, RunsTelling, tasks_in}
use Rattle.line_server.specs.Spelling.{line_of}
use Rattle.line_server.specs.declared.fault.LineFault.{LineFault}
use Rattle.line_server.specs.declared.line.Line.{Line}
use Rattle.line_server.specs.declared.line.Line.TheVariants.{Skipped}
use Rattle.line_notices.specs.Seen.{noticed}

-- a client that looks on, by its place in a plan that was accepted with its policy
pub record Onlooker : Type 0 where
  pub plan : Plan
  pub policy : Policy
  pub client : ℕ

-- the client at this place looks on
abbrev pub onlooker : Accepted → ℕ → Onlooker
onlooker accepted client = record { plan = accepted.plan; policy = accepted.policy; client = client }

-- the plan and its policy
abbrev pub accepted_of : Onlooker → Accepted
accepted_of o = record { plan = o.plan; policy = o.policy }

-- whether nothing could be noticed of a step
abbrev pub is_unnoticed : Onlooker → Step → Bool
is_unnoticed o step = cond (is_some (noticed (accepted_of o) o.client step)) false true

-- `seen` or `quiet`, a line of its own
abbrev pub verdict_text : (is_seen : Bool) → List ℕ
verdict_text true = codes "seen\n"
verdict_text false = codes "quiet\n"

-- `quiet` where nothing could be noticed of any of the steps, else `seen`
abbrev pub steps_text : Onlooker → List Step → List ℕ
steps_text o steps = cond (list_all (is_unnoticed o) steps) (codes "quiet\n") (codes "seen\n")

-- what is written for what a line says: whether the steps that it asks for could be noticed, and nothing of a line that says nothing
abbrev pub said_text : Onlooker → Line → List ℕ
said_text o Skipped = []
said_text o said = steps_text o (steps_of (tasks_in o.plan said))

-- what is written for a line
abbrev pub line_text : Onlooker → List ℕ → List ℕ
line_text o line = said_text o (line_of o.plan line)

-- what is written for lines
abbrev pub lines_text : Onlooker → List (List ℕ) → List ℕ
lines_text o ls = flat_map (line_text o) ls

-- a line is answered by this text
abbrev pub AnswersOnlooker : Onlooker → ℕ → List ℕ → List ℕ → Onlooker → Type 0
AnswersOnlooker old number line text new = IsReadable old.plan line × (text ≡ line_text old line) × (new ≡ old)

-- a line ends the run as it ends that of a meter
abbrev pub StopsOnlooker : Onlooker → ℕ → List ℕ → List ℕ → LineFault → Type 0
StopsOnlooker old number line text fault = StopsOver old.plan number line text fault

-- how a run of lines ends for which it is written whether the client could notice them
abbrev pub NoticesLines : Onlooker → (before after : Moment) → Result ℕ LineFault → Type 0
NoticesLines o before after result = RunsTelling o.plan (lines_text o) before after result

-- what was told of a line: all of this text, or a beginning of it, behind which memory was refused or a write failed
abbrev pub TellsSeen : List ℕ → (before after : Option (List ℕ)) → Type 0
TellsSeen text before after = (front : List ℕ) × (left : List ℕ) × (text ≡ front ++ left) × Appends before after front
