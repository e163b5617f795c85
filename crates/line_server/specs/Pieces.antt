-- A run of lines in the order in which its bytes come: what the parts of the runner do. All of it is own profile.
use Rattle.std.specs.Prelude.{◌≡◌, ℕ, List, [], ◌++◌, length, Option, ◌⊎◌, All, Result, Ok, Err}
use Rattle.std.specs.Io.KnownBytes.{Consumes, Appends, IsAtEnd}
use Rattle.line_server.specs.declared.fault.LineFault.{LineFault}
use Rattle.line_server.specs.declared.fault.LineFault.TheVariants.{Write}
use Rattle.line_server.specs.declared.lines.Run.{Run}
use Rattle.line_server.specs.Lines.{IsLine, text_of_lines, Moment, Answering, Stopping, Turn, lines_of, texts_of, Leads, Ends, Breaks}

-- of these bytes that were read, the lines of these turns were answered, a front of their texts was written and the others wait; the rest of the bytes is left (own profile)
pub record Stands {A : Type 0} (answers : Answering A) (old now : A) (before after : Moment) (bytes : List ℕ) (turns : List Turn) (rest : List ℕ) (count : ℕ) (waiting : List ℕ) : Type 0 where
  pub each : All IsLine (lines_of turns)
  pub led : Leads answers old 0 turns now
  pub read : Consumes before.unread after.unread bytes
  pub whole : bytes ≡ text_of_lines (lines_of turns) ++ rest
  pub front : List ℕ
  pub wrote : Appends before.written after.written front
  pub waits : texts_of turns ≡ front ++ waiting
  pub count_is : count ≡ length turns

-- the run ended, of the text for it a front was written and the others wait; or a write failed, and nothing waits (own profile)
pub record Halts {A : Type 0} (answers : Answering A) (stops : Stopping A) (old new : A) (before after : Moment) (result : Result ℕ LineFault) (waiting : List ℕ) : Type 0 where
  pub text : List ℕ
  pub front : List ℕ
  pub wrote : Appends before.written after.written front
  pub waits : text ≡ front ++ waiting
  pub ends : Ends answers stops old new before.unread after.unread result text ⊎ ((result ≡ Err Write) × Breaks answers stops old before.unread after.unread text × (waiting ≡ []))

-- whatever answers, the run, and what the writer holds, where that is known (own profile)
pub record Stage (A : Type 0) : Type 0 where
  pub asker : A
  pub run : Run
  pub written : Option (List ℕ)

-- a stage beside what is unread
abbrev pub moment : Option (List ℕ) → Option (List ℕ) → Moment
moment unread written = record { unread = unread; written = written }

-- of these bytes all whole lines were answered, and the next has begun; or the run ended (own profile)
abbrev pub Took : {A : Type 0} → Answering A → Stopping A → A → Stage A → Moment → Option (List ℕ) → List ℕ → Result (Unit {0}) LineFault → Type 0
Took answers stops start new before unread bytes (Ok u) =
    (turns : List Turn) × Stands answers start new.asker before (moment unread new.written) bytes turns new.run.feeder new.run.count new.run.waiting.items × IsLine new.run.feeder
Took answers stops start new before unread bytes (Err fault) =
    Halts answers stops start new.asker before (moment unread new.written) (Err fault) new.run.waiting.items

-- what a run does with a piece, whatever came before it (own profile)
abbrev pub TakesPiece : {A : Type 0} → Answering A → Stopping A → Stage A → Stage A → List ℕ → Result (Unit {0}) LineFault → Type 0
TakesPiece {A} answers stops old new piece result =
    (start : A) (before : Moment) (unread : Option (List ℕ)) (bytes : List ℕ) (turns : List Turn)
    → Stands answers start old.asker before (moment unread old.written) bytes turns (old.run.feeder ++ piece) old.run.count old.run.waiting.items
    → Took answers stops start new before unread bytes result

-- what a run does at the end of the input, whatever came before it (own profile)
abbrev pub EndsRun : {A : Type 0} → Answering A → Stopping A → A → A → Run → Run → Result ℕ LineFault → Type 0
EndsRun {A} answers stops old_asker new_asker old new result =
    (start : A) (before after : Moment) (bytes : List ℕ) (turns : List Turn)
    → Stands answers start old_asker before after bytes turns old.feeder old.count old.waiting.items → IsLine old.feeder → IsAtEnd after.unread
    → Halts answers stops start new_asker before after result new.waiting.items
