-- How a driver takes the steps of its lines. All of it is own profile.
use Rattle.std.specs.Prelude.{◌≡◌, ◌⊎◌, ℕ, ◌+◌, ◌%◌, ◌^◌, Bool, true, false, List, ◌++◌, codes, Option, Result, Ok, Err}
use Rattle.std.specs.Fmt.{decimal}
use Rattle.std.specs.Io.KnownBytes.{Appends}
use Rattle.cosem_data.specs.declared.memory.Memory.{Memory}
use Rattle.meter_theory.specs.Plan.{Plan}
use Rattle.meter_theory.specs.Replies.{Reply}
use Rattle.meter_theory.specs.Steps as steps
use Rattle.meter_live.specs.Changes.{Answers}
use Rattle.meter_live.specs.Tally.{Tally, Counts}
use Rattle.line_server.specs.Doing.{TakesAll}
use Rattle.line_server.specs.Faults.{reason_words}
use Rattle.line_server.specs.Spelling.{line_of}
use Rattle.line_server.specs.Driving.{left_of}
use Rattle.line_server.specs.Running.{own_steps}
use Rattle.line_server.specs.declared.driving.Left.{Left}
use Rattle.line_server.specs.declared.driving.Left.TheVariants.{Nothing, Ask, Unreadable}
use Rattle.line_server.specs.declared.line.Line.{Line}
use Rattle.live_server.specs.declared.notices.NoStep.{NoStep}
use Rattle.live_server.specs.declared.notices.NoStep.TheVariants as kinds
use Rattle.live_server.specs.declared.notices.NoStep.TheVariants.{Apdu}

-- what is told of a line for which memory was refused, or of a step of it
abbrev pub memory_text : ℕ → List ℕ
memory_text number = codes "line " ++ (decimal number ++ codes ": memory\n")

-- what is told of a step of a line that can't be kept
abbrev pub unkept_text : ℕ → List ℕ
unkept_text number = codes "line " ++ (decimal number ++ codes ": not kept\n")

-- why a line is no step of the meter itself
abbrev pub no_step_words : NoStep → List ℕ
no_step_words Apdu = codes "clients ask over TCP, and not by a line"
no_step_words (kinds.Unreadable reason) = reason_words reason

-- what is told of a line that is no step of the meter itself, and why
abbrev pub unread_text : ℕ → List ℕ → List ℕ
unread_text number words = codes "line " ++ (decimal number ++ (codes ": unreadable: " ++ (words ++ codes "\n")))

-- what is told where no further line comes
abbrev pub end_text : (is_read : Bool) → List ℕ
end_text true = codes "cosem-flow: the lines have ended: the meter takes no further step of its own\n"
end_text false = codes "cosem-flow: the lines can't be read on: the meter takes no further step of its own\n"

-- a text was told whole, or, where that wasn't so, at most a beginning of it
abbrev pub Tells : Option (List ℕ) → Option (List ℕ) → List ℕ → Bool → Type 0
Tells old new text true = Appends old new text
Tells old new text false = (front : List ℕ) × (left : List ℕ) × (text ≡ front ++ left) × Appends old new front

-- what takes the steps of a line: what its share counts, what was told, and the number of the line
pub record Hand : Type 0 where
  pub share : Tally
  pub told : Option (List ℕ)
  pub number : ℕ

-- before the steps of the next line, whose number is one more
abbrev pub following : Hand → Hand
following old = record { share = old.share; told = old.told; number = (old.number + 1) % 2 ^ 64 }

-- a step is taken under the lock, and the share counts it
abbrev pub IsCounted : Plan → Hand → steps.Step → Reply → Hand → Type 0
IsCounted P old step reply new = Answers P step reply × Counts P old.share step new.share × (new.told ≡ old.told)

-- what is told, and nothing else changes
abbrev pub IsTold : Hand → List ℕ → Hand → Type 0
IsTold old text new = (is_whole : Bool) × Tells old.told new.told text is_whole × (new.share ≡ old.share)

-- a step is refused, for memory or since it can't be kept, which is told
abbrev pub IsRefused : Hand → Hand → Type 0
IsRefused old new = (new.number ≡ old.number) × (IsTold old (memory_text old.number) new ⊎ IsTold old (unkept_text old.number) new)

-- Each step of a line is taken, or is told and passed over: the next goes on.
abbrev pub TakesOrTells : Plan → Hand → steps.Step → Result Reply Memory → Hand → Type 0
TakesOrTells P old step (Ok reply) new = ((new.number ≡ old.number) × IsCounted P old step reply new) ⊎ IsRefused old new
TakesOrTells P old step (Err refused) new = ⊥

-- that a line is no step of the meter itself, as the APDU of a client, is told, and why
abbrev pub TellsOf : Left → Hand → Hand → Type 0
TellsOf Nothing old new = new ≡ old
TellsOf (Ask ask) old new = IsTold old (unread_text old.number (no_step_words Apdu)) new
TellsOf (Unreadable why) old new = IsTold old (unread_text old.number (no_step_words (kinds.Unreadable why))) new

-- what a line does: its steps are taken one after another, and it is told where it is something else
abbrev pub Drives : Plan → Hand → Line → Hand → Type 0
Drives P old line new = (mid : Hand) × TakesAll (TakesOrTells P) old (own_steps P line) mid × TellsOf (left_of line) mid new

-- the same of the text of a line, unless memory was refused to read it, which is told
abbrev pub DrivesLine : Plan → Hand → List ℕ → Hand → Type 0
DrivesLine P old text new = Drives P old (line_of P text) new ⊎ IsTold old (memory_text old.number) new
