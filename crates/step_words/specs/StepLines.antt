-- Step lines, in words and in hex: the front is the same in both, and what stands behind it is translated (own profile). Texts are lists of bytes.
use Rattle.std.specs.Prelude.{ℕ, ◌-◌, nat_le, List, [], ◌∷◌, ◌++◌, length, take, codes, Option, Some, None, option_and_then, is_some, unwrap_or, Result, Ok, Err, if◌then◌else◌}
use Rattle.std.specs.Str.{bytes_eq}
use Rattle.hex.specs.Hex.{encode_upper}
use Rattle.cosem_data.specs.Tree.{Tree}
use Rattle.cosem_axdr.specs.Canonical.{canonical}
use Rattle.meter_theory.specs.ClientNames.{is_name_byte, is_client_name}
use Rattle.meter_theory.specs.declared.limits.TheConstants as limits
use Rattle.value_text.specs.Texts.{bytes_in, value_in}
use Rattle.value_words.specs.Words.{value_words}
use Rattle.value_words.specs.declared.stop.Stop.{Stop}
use Rattle.value_words.specs.declared.stop.Stop.TheVariants as stop
use Rattle.value_words.specs.Stopping.{◌>>=◌, Reader, stops, mark_at, front, past}
use Rattle.value_words.specs.WordReading.{number_in}
use Rattle.step_words.specs.declared.fault.Asked.{Asked}
use Rattle.step_words.specs.declared.fault.Asked.TheVariants as asked
use Rattle.step_words.specs.declared.head.Head.{Head}
use Rattle.step_words.specs.declared.head.Head.TheVariants.{Input, Client, NamedTick, Whole}
use Rattle.step_words.specs.Parts.{ended, name_at, moment_at, value_at}
use Rattle.step_words.specs.RequestWords.{apdu_words}
use Rattle.step_words.specs.RequestReading.{asked_bytes, words_in}

-- behind `in`: a space, a logical name and a space, and then a value (own profile)
unfoldable pub input_at : Reader Asked Head
input_at text = do
  rest ← mark_at asked.Space (codes " ") text
  name ← name_at rest
  value ← mark_at asked.Space (codes " ") name.1
  Ok (Input, value)

-- behind `eval`: a space and a logical name, to the end of the line (own profile)
unfoldable pub evaluation_at : Reader Asked Head
evaluation_at text = do
  rest ← mark_at asked.Space (codes " ") text
  name ← name_at rest
  whole ← ended (tt {0}) name.1
  Ok (Whole, name.1)

-- behind `at`: a space and a moment, to the end of the line (own profile)
unfoldable pub offer_at : Reader Asked Head
offer_at text = do
  rest ← mark_at asked.Space (codes " ") text
  moment ← moment_at rest
  Ok (Whole, [])

-- how many seconds pass: 1 to 3600 as a decimal number without leading zeros, and nothing behind it (own profile)
abbrev pub seconds_in : List ℕ → Option ℕ
seconds_in text = option_and_then (λ n. if nat_le 1 n then Some n else None) (number_in limits.TICK_SECONDS text)

-- behind `tick`: a space and a number of seconds, to the end of the line; with anything else behind the space `tick` is a client's
-- name, as a plan of version 1 may have it (own profile)
unfoldable pub tick_at : Reader Asked Head
tick_at text = do
  rest ← mark_at asked.Space (codes " ") text
  if is_some (seconds_in rest) then Ok (Whole, []) else Ok (NamedTick, rest)

-- behind the name of a client: a space, and then what it asks (own profile)
unfoldable pub client_at : Reader Asked Head
client_at text = mark_at asked.Space (codes " ") text >>= λ rest. Ok (Client, rest)

-- the front of a step line by its first word (own profile)
abbrev pub head_step : List ℕ → List ℕ → List ℕ → Result (Head × List ℕ) (Stop Asked)
head_step text word rest =
    if bytes_eq word (codes "in") then input_at rest
    else if bytes_eq word (codes "eval") then evaluation_at rest
    else if bytes_eq word (codes "at") then offer_at rest
    else if bytes_eq word (codes "tick") then tick_at rest
    else if is_client_name word then client_at rest
    else stops asked.FirstWord text

-- the front of a step line, and what stands behind it (own profile)
unfoldable pub head_at : Reader Asked Head
head_at text = head_step text (front is_name_byte text) (past is_name_byte text)

-- the text up to what is left of it (own profile)
abbrev pub up_to : List ℕ → List ℕ → List ℕ
up_to text rest = take (length text - length rest) text

-- where none of the words of a client stands behind `tick`, a number of seconds is asked too (own profile)
abbrev pub or_seconds : Result (List ℕ) (Stop Asked) → Result (List ℕ) (Stop Asked)
or_seconds (Err (stop.At left asked.Service)) = Err (stop.At left asked.SecondsOrService)
or_seconds read = read

-- the hex digits of what a client named `tick` asks. Where they are a number of seconds they end the line in words too, behind
-- `apdu`, and reading stops in front of them (own profile)
abbrev pub no_seconds : List ℕ → Result (List ℕ) (Stop Asked)
no_seconds digits = if is_some (seconds_in digits) then stops asked.NoSeconds digits else Ok digits

-- the hex of what stands in words behind the front (own profile)
unfoldable pub hex_at : Head → List ℕ → Result (List ℕ) (Stop Asked)
hex_at Input text = value_at text >>= λ v. ended (encode_upper (canonical v.0)) v.1
hex_at Client text = asked_bytes text >>= λ bytes. Ok (encode_upper bytes)
hex_at NamedTick text = or_seconds (asked_bytes text) >>= λ bytes. no_seconds (encode_upper bytes)
hex_at Whole text = Ok []

-- the step line in hex of a step in words (own profile)
unfoldable pub encoded_step : List ℕ → Result (List ℕ) (Stop Asked)
encoded_step text = do
  head ← head_at text
  hex ← hex_at head.0 head.1
  Ok (up_to text head.1 ++ hex)

-- what a client asks by its bytes, in words: those of a request, or else `apdu HEX` (own profile)
abbrev pub ask_words : List ℕ → List ℕ
ask_words bytes = unwrap_or (words_in bytes) (apdu_words bytes)

-- the words of an APDU in hex digits, if it has a byte (own profile)
abbrev pub ask_step : List ℕ → Option (List ℕ) → Result (List ℕ) (Stop Asked)
ask_step text (Some (b ∷ bytes)) = Ok (ask_words (b ∷ bytes))
ask_step text _ = stops asked.HexDigits text

-- the words of a value, if the hex digits are one (own profile)
abbrev pub input_step : List ℕ → Option Tree → Result (List ℕ) (Stop Asked)
input_step text None = stops asked.Encoding text
input_step text (Some t) = Ok (value_words t)

-- the words of what stands in hex behind the front (own profile)
unfoldable pub words_at : Head → List ℕ → Result (List ℕ) (Stop Asked)
words_at Input text = input_step text (value_in text)
words_at Client text = ask_step text (bytes_in text)
words_at NamedTick text = ask_step text (bytes_in text)
words_at Whole text = Ok []

-- the step in words of a step line in hex (own profile)
unfoldable pub decoded_step : List ℕ → Result (List ℕ) (Stop Asked)
decoded_step text = do
  head ← head_at text
  words ← words_at head.0 head.1
  Ok (up_to text head.1 ++ words)
