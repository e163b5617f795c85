-- Reading the parts of a line from left to right: the part and what stands behind it, or the first place where something else stands than what is asked. Texts are lists of bytes.
use Rattle.std.specs.Prelude.{◌≤◌, ℕ, ◌-◌, ◌^◌, ◌==◌, ◌||◌, ◌&&◌, nat_le, Bool, List, [], ◌∷◌, length, Result, Ok, Err, if◌then◌else◌}
use Rattle.std.specs.Char.{is_ascii_digit}
use Rattle.cosem_data.specs.Tree.{Tree, depth}
use Rattle.cosem_axdr.specs.Canonical.{canonical, HasLengths}
use Rattle.cosem_axdr.specs.Laws.{HasRanges}
use Rattle.cosem_data.specs.declared.name.LogicalName.{LogicalName}
use Rattle.meter_theory.specs.Times.{Moment}
use Rattle.meter_theory.specs.ClientNames.{is_name_byte}
use Rattle.civil_moment.specs.MomentText.{moment_in}
use Rattle.value_text.specs.Texts.{name_in}
use Rattle.value_words.specs.declared.fault.ValueFault.{ValueFault}
use Rattle.value_words.specs.declared.fault.ValueFault.TheVariants as fault
use Rattle.value_words.specs.declared.stop.Stop.{Stop}
use Rattle.value_words.specs.declared.stop.Stop.TheVariants as stop
use Rattle.value_words.specs.Stopping.{◌>>=◌, Reader, stops, found, front, past}
use Rattle.value_words.specs.WordReading as words
use Rattle.value_words.specs.WordReading.{is_digit}
use Rattle.step_words.specs.declared.fault.Asked.{Asked}
use Rattle.step_words.specs.declared.fault.Asked.TheVariants as asked
use Rattle.step_words.specs.declared.runs.Run.{Run}
use Rattle.step_words.specs.declared.runs.Run.TheVariants.{Digits, Name, Word, Hex}

-- what was read, where the line ends behind it (own profile)
abbrev pub ended : {A : Type 0} → A → List ℕ → Result A (Stop Asked)
ended x [] = Ok x
ended x (c ∷ text) = stops asked.End (c ∷ text)

-- a digit or a dot (own profile)
abbrev pub is_name_digit : ℕ → Bool
is_name_digit c = is_ascii_digit c || (c == 46)

-- the bytes of a run: decimal digits, those of a logical name, or those of a first word (own profile)
abbrev pub passes : Run → ℕ → Bool
passes Digits = is_ascii_digit
passes Name = is_name_digit
passes Word = is_name_byte
passes Hex = is_digit

-- a logical name (IEC 62056-6-2, logical_name); it ends where digits and dots end (own profile)
unfoldable pub name_at : Reader Asked LogicalName
name_at text = found asked.Name text (name_in (front is_name_digit text)) (past is_name_digit text)

-- a moment to the end of the line (own profile)
unfoldable pub moment_at : Reader Asked Moment
moment_at text = found asked.Moment text (moment_in text) []

-- a value in words, or where reading it stops, in bytes from the end of the line (own profile)
abbrev pub value_step : ℕ → Result (Tree × List ℕ) ValueFault → Result (Tree × List ℕ) (Stop Asked)
value_step size (Ok x) = Ok x
value_step size (Err fault.Memory) = Err stop.Memory
value_step size (Err (fault.At place what)) = Err (stop.At (size - place) (asked.Value what))

-- the value is nested at most 16 deep, and its encoding has less than 2 ^ 32 bytes (own profile)
abbrev pub can_be_sent : Tree → Bool
can_be_sent t = nat_le (depth t) 16 && nat_le (length (canonical t)) (2 ^ 32 - 1)

-- the same as a fact, with the ranges that a value of the code has (own profile)
pub record CanBeSent (t : Tree) : Type 0 where
  pub lengths : HasLengths t
  pub nested : depth t ≤ 16
  pub ranges : HasRanges t

-- the value, if it can be sent; else reading stops in front of it (own profile)
abbrev pub sent_step : List ℕ → Tree × List ℕ → Result (Tree × List ℕ) (Stop Asked)
sent_step text x = if can_be_sent x.0 then Ok x else stops asked.ShortValue text

-- a value in words that can be sent (own profile)
unfoldable pub value_at : Reader Asked Tree
value_at text = value_step (length text) (words.value_at 16 text) >>= sent_step text
