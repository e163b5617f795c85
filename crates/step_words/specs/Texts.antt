-- Whole texts: steps in words made into step lines in hex, and step lines and replies in hex into words (own profile). Texts are lists of bytes.
use Rattle.std.specs.Prelude.{◌≡◌, ℕ, ◌+◌, ◌-◌, ◌==◌, ◌||◌, Bool, false, List, [], ◌∷◌, length, slice_get, codes, Option, Some, None, is_some, Result, Ok, Err, if◌then◌else◌}
use Rattle.std.specs.Char.{is_ascii_digit}
use Rattle.std.specs.List.{slice_split, join_with_byte, list_any}
use Rattle.std.specs.Str.{bytes_eq}
use Rattle.value_words.specs.declared.stop.Stop.{Stop}
use Rattle.value_words.specs.declared.stop.Stop.TheVariants as stop
use Rattle.value_words.specs.Stopping.{◌>>=◌, behind, past}
use Rattle.step_words.specs.declared.fault.Asked.{Asked}
use Rattle.step_words.specs.declared.fault.Asked.TheVariants as asked
use Rattle.step_words.specs.declared.fault.TextFault.{TextFault}
use Rattle.step_words.specs.declared.fault.TextFault.TheVariants as faults
use Rattle.step_words.specs.declared.texts.Way.{Way}
use Rattle.step_words.specs.declared.head.Head.TheVariants.{Input}
use Rattle.step_words.specs.declared.texts.Way.TheVariants.{Encode, Decode, EncodeValues, DecodeValues}
use Rattle.step_words.specs.StepLines.{encoded_step, decoded_step, hex_at, words_at}
use Rattle.step_words.specs.ReplyWords.{decoded_reply}

-- Lines

-- `line N: unreadable`, by what stands behind its first word (own profile)
abbrev pub unreadable_step : Option (List ℕ) → Bool
unreadable_step None = false
unreadable_step (Some rest) = bytes_eq (past is_ascii_digit rest) (codes ": unreadable")

-- what a run tells besides replies: `line N: unreadable`, and the fault of a configuration, which begins with `config C` (own profile)
abbrev pub is_told : List ℕ → Bool
is_told text = is_some (behind (codes "config C") text) || unreadable_step (behind (codes "line ") text)

-- a line that is no step line in hex stands as it is if a run tells it; without a space it is a reply (own profile)
abbrev pub spared : List ℕ → Result (List ℕ) (Stop Asked) → Result (List ℕ) (Stop Asked)
spared text (Ok words) = Ok words
spared text (Err stop.Memory) = Err stop.Memory
spared text (Err (stop.At left what)) =
    if is_told text then Ok text
    else if list_any (λ c. c == 32) text then Err (stop.At left what)
    else decoded_reply text

-- what is made of a line that says something; a value stands in it as behind `in NAME ` (own profile)
abbrev pub made_of : Way → List ℕ → Result (List ℕ) (Stop Asked)
made_of Encode text = encoded_step text
made_of Decode text = spared text (decoded_step text)
made_of EncodeValues text = hex_at Input text
made_of DecodeValues text = words_at Input text

-- whether there is a byte, and it is 0D (own profile)
abbrev pub is_return : Option ℕ → Bool
is_return None = false
is_return (Some b) = b == 13

-- whether the byte 0D ends the text, as some editors put it before a newline (own profile)
abbrev pub ends_in_return : List ℕ → Bool
ends_in_return text = is_return (slice_get text (length text - 1))

-- where such a byte ends a line of which nothing is made, that is the fault (own profile)
abbrev pub with_return : List ℕ → Result (List ℕ) (Stop Asked) → Result (List ℕ) (Stop Asked)
with_return text (Err (stop.At left what)) = if ends_in_return text then Err (stop.At 1 asked.Newline) else Err (stop.At left what)
with_return text made = made

-- what is made of a line; an empty one and one that begins with `#` stand as they are (own profile)
abbrev pub line_at : Way → List ℕ → Result (List ℕ) (Stop Asked)
line_at way [] = Ok []
line_at way (c ∷ text) = if c == 35 then Ok (c ∷ text) else with_return (c ∷ text) (made_of way (c ∷ text))

-- Texts

-- a stop in the line with this number that is so long, by its place from the front, from 1 (own profile)
abbrev pub placed : ℕ → ℕ → Result (List ℕ) (Stop Asked) → Result (List ℕ) TextFault
placed number size (Ok x) = Ok x
placed number size (Err stop.Memory) = Err faults.Memory
placed number size (Err (stop.At left what)) = Err (faults.At number (size - left + 1) what)

-- what is made of lines, the first of which has this number; or the fault of the first that has one (own profile)
abbrev pub lines_at : Way → ℕ → List (List ℕ) → Result (List (List ℕ)) TextFault
lines_at way number [] = Ok []
lines_at way number (line ∷ lines) = do
  first ← placed number (length line) (line_at way line)
  others ← lines_at way (number + 1) lines
  Ok (first ∷ others)

-- what is made of a text, whose lines a newline parts; the first has the number 1 (own profile)
abbrev pub text_at : Way → List ℕ → Result (List ℕ) TextFault
text_at way text = lines_at way 1 (slice_split (λ b. b == 10) text) >>= λ lines. Ok (join_with_byte 10 lines)

-- the step lines in hex of steps in words (own profile)
unfoldable pub encoded : List ℕ → Result (List ℕ) TextFault
encoded text = text_at Encode text

-- the words of step lines and of replies in hex (own profile)
unfoldable pub decoded : List ℕ → Result (List ℕ) TextFault
decoded text = text_at Decode text

-- the encodings in hex of values in words, a line each (own profile)
unfoldable pub encoded_values : List ℕ → Result (List ℕ) TextFault
encoded_values text = text_at EncodeValues text

-- the words of values whose encodings stand in hex, a line each (own profile)
unfoldable pub decoded_values : List ℕ → Result (List ℕ) TextFault
decoded_values text = text_at DecodeValues text

-- a function told the fault that is met; where memory ran out it says nothing of what is met (own profile)
abbrev pub Fails : {Y : Type 0} → TextFault → Result Y TextFault → Type 0
Fails faults.Memory made = Unit {0}
Fails (faults.At line column what) made = made ≡ Err (faults.At line column what)

-- what a function returned, seen by view, is what is made, or the fault that is met, unless memory ran out (own profile)
abbrev pub Gives : {X Y : Type 0} → (X → Y) → Result X TextFault → Result Y TextFault → Type 0
Gives view (Ok x) made = made ≡ Ok (view x)
Gives view (Err e) made = Fails e made
