-- Lines of bytes, one after another, and whatever answers them. All of it is own profile.
use Rattle.std.specs.Prelude.{◌≡◌, ◌≢◌, ℕ, ◌+◌, ◌^◌, ◌<◌, ◌≤◌, List, [], ◌∷◌, ◌++◌, length, map, Option, ◌⊎◌, All, Result, Ok, Err}
use Rattle.std.specs.List.{flat_map}
use Rattle.std.specs.Io.KnownBytes.{Consumes, Appends, IsAtEnd}
use Rattle.line_server.specs.declared.fault.LineFault.{LineFault}
use Rattle.line_server.specs.declared.fault.LineFault.TheVariants.{Read, Write, Line, Memory}

-- Lines

-- a line holds no newline (own profile)
abbrev pub IsLine : List ℕ → Type 0
IsLine line = All (λ b. b ≢ 10) line

-- a line with its end, a newline (own profile)
abbrev pub ended : List ℕ → List ℕ
ended line = line ++ 10 ∷ []

-- the text of lines, each with its end (own profile)
abbrev pub text_of_lines : List (List ℕ) → List ℕ
text_of_lines lines = flat_map ended lines

-- the lines with one more that the input ends, if it has a byte (own profile)
abbrev pub with_last : List (List ℕ) → List ℕ → List (List ℕ)
with_last lines [] = lines
with_last lines (b ∷ bs) = lines ++ (b ∷ bs) ∷ []

-- what a reader has left and what a writer holds, where that is known (own profile)
pub record Moment : Type 0 where
  pub unread : Option (List ℕ)
  pub written : Option (List ℕ)

-- the line stands whole at the front of the rest: its end follows it, or the input ends (own profile)
abbrev pub StandsWhole : Option (List ℕ) → List ℕ → List ℕ → Type 0
StandsWhole unread line rest = IsLine line × (((more : List ℕ) × (rest ≡ ended line ++ more)) ⊎ ((rest ≡ line) × (0 < length line) × IsAtEnd unread))

-- Whatever answers lines

-- what a line does: whatever answers it before, the number of the line, from 1, the line, what is written for it, whatever answers then (own profile)
abbrev pub Answering : Type 0 → Type 1
Answering A = A → ℕ → List ℕ → List ℕ → A → Type 0

-- what a line ends the run by: whatever answers it, the number of the line, the line, what is written for it, the fault (own profile)
abbrev pub Stopping : Type 0 → Type 1
Stopping A = A → ℕ → List ℕ → List ℕ → LineFault → Type 0

-- one more text was put behind those that wait, and this is true of it (own profile)
abbrev pub Puts : List ℕ → List ℕ → (List ℕ → Type 0) → Type 0
Puts old new IsText = (text : List ℕ) × (new ≡ old ++ text) × IsText text

-- a line, and what is written for it (own profile)
pub record Turn : Type 0 where
  pub line : List ℕ
  pub text : List ℕ

-- the lines of turns (own profile)
abbrev pub lines_of : List Turn → List (List ℕ)
lines_of turns = map (λ turn. turn.line) turns

-- what is written for them (own profile)
abbrev pub texts_of : List Turn → List ℕ
texts_of turns = flat_map (λ turn. turn.text) turns

-- these turns, one after another, lead from the old to the new; so many lines stand before them (own profile)
abbrev pub Leads : {A : Type 0} → Answering A → A → ℕ → List Turn → A → Type 0
Leads answers old count [] new = new ≡ old
Leads {A} answers old count (turn ∷ turns) new = (mid : A) × answers old (count + 1) turn.line turn.text mid × Leads answers mid (count + 1) turns new

-- The promise

-- the lines of these turns, each with its end, and the rest were read, and the turns lead from the old to the new (own profile)
pub record Hears {A : Type 0} (answers : Answering A) (old new : A) (unread left : Option (List ℕ)) (turns : List Turn) (rest : List ℕ) : Type 0 where
  pub each : All IsLine (lines_of turns)
  pub led : Leads answers old 0 turns new
  pub read : Consumes unread left (text_of_lines (lines_of turns) ++ rest)

-- the line that the input ends is answered, if it has a byte (own profile)
abbrev pub EndsWith : {A : Type 0} → Answering A → A → ℕ → List ℕ → List ℕ → A → Type 0
EndsWith answers old number [] text new = (text ≡ []) × (new ≡ old)
EndsWith answers old number (b ∷ bs) text new = answers old number (b ∷ bs) text new

-- why a run may end between two lines: a read failed, or the count of bytes came to its end; or memory was refused (own profile)
abbrev pub IsBetween : LineFault → List ℕ → List ℕ → Type 0
IsBetween Read bytes rest = IsLine rest ⊎ (2 ^ 64 ≤ length (bytes ++ rest))
IsBetween Write bytes rest = ⊥
IsBetween (Line number why) bytes rest = ⊥
IsBetween Memory bytes rest = Unit {0}

-- the fault comes between two lines, for which nothing is written; or a line ends the run by it (own profile)
abbrev pub StopsBy : {A : Type 0} → Stopping A → A → Option (List ℕ) → List Turn → List ℕ → List ℕ → LineFault → Type 0
StopsBy stops now unread turns rest tail fault =
    (IsBetween fault (text_of_lines (lines_of turns)) rest × (tail ≡ [])) ⊎ ((line : List ℕ) × StandsWhole unread line rest × stops now (length turns + 1) line tail fault)

-- what was read and answered, and the text for it: all of the input, and this is the number of its lines; or a fault stopped it (own profile)
abbrev pub Ends : {A : Type 0} → Answering A → Stopping A → A → A → Option (List ℕ) → Option (List ℕ) → Result ℕ LineFault → List ℕ → Type 0
Ends {A} answers stops old new unread left (Ok count) text =
    (turns : List Turn) × (last : List ℕ) × (now : A) × (tail : List ℕ) × Hears answers old now unread left turns last × (text ≡ texts_of turns ++ tail)
    × EndsWith answers now (length turns + 1) last tail new × IsLine last × IsAtEnd left × (count ≡ length (with_last (lines_of turns) last))
Ends {A} answers stops old new unread left (Err fault) text =
    (turns : List Turn) × (rest : List ℕ) × (now : A) × (tail : List ℕ) × Hears answers old now unread left turns rest × (text ≡ texts_of turns ++ tail)
    × StopsBy stops now left turns rest tail fault

-- what is written for a line: it is answered, or ends the run (own profile)
abbrev pub IsTextFor : {A : Type 0} → Answering A → Stopping A → A → ℕ → List ℕ → List ℕ → Type 0
IsTextFor {A} answers stops now number line text = ((next : A) × answers now number line text next) ⊎ ((fault : LineFault) × stops now number line text fault)

-- the lines of these turns were answered, and of what is written for one more a beginning was written, which ends this text, and something is left (own profile)
pub record Breaks {A : Type 0} (answers : Answering A) (stops : Stopping A) (old : A) (unread left : Option (List ℕ)) (text : List ℕ) : Type 0 where
  pub turns : List Turn
  pub rest : List ℕ
  pub now : A
  pub line : List ℕ
  pub front : List ℕ
  pub behind : List ℕ
  pub heard : Hears answers old now unread left turns rest
  pub text_is : text ≡ texts_of turns ++ front
  pub stands : StandsWhole left line rest
  pub is_for : IsTextFor answers stops now (length turns + 1) line (front ++ behind)
  pub some : 0 < length behind

-- how a run of lines ends: this text was written, which is all of the text for what was read and answered; or a write failed in it (own profile)
pub record AnswersAll {A : Type 0} (answers : Answering A) (stops : Stopping A) (old new : A) (before after : Moment) (result : Result ℕ LineFault) : Type 0 where
  pub text : List ℕ
  pub wrote : Appends before.written after.written text
  pub ends : Ends answers stops old new before.unread after.unread result text ⊎ ((result ≡ Err Write) × Breaks answers stops old before.unread after.unread text)
