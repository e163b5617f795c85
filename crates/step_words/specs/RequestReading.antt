-- Reading the words of a request, as they stand behind the name of a client (own profile). Texts are lists of bytes.
use Rattle.std.specs.Prelude.{ℕ, ◌^◌, ◌-◌, ◌==◌, ◌||◌, Bool, false, List, [], ◌∷◌, length, codes, Option, Some, None, is_some, option_and_then, Result, Ok, if◌then◌else◌}
use Rattle.std.specs.Char.{is_ascii_digit}
use Rattle.cosem_data.specs.Tree.{Tree, trees, structure, double_long_unsigned, long_unsigned}
use Rattle.cosem_data.specs.View.{data_of}
use Rattle.meter_theory.specs.Selection.{EntryDescriptor}
use Rattle.meter_theory.specs.declared.refs.Descriptor.{Descriptor}
use Rattle.object_model.specs.declared.argument.Argument.{Argument}
use Rattle.object_model.specs.declared.argument.Argument.TheVariants.{Absent, Value}
use Rattle.value_words.specs.declared.stop.Stop.{Stop}
use Rattle.value_words.specs.Stopping.{◌>>=◌, Reader, stops, found, behind, mark_at, front, past}
use Rattle.value_words.specs.WordReading.{number_in, unsigned_at, signed_at, bytes_in, is_digit}
use Rattle.xdlms_services.specs.declared.request.Request.{Request}
use Rattle.xdlms_services.specs.declared.request.Request.TheVariants.{Get, Set, Act}
use Rattle.xdlms_services.specs.Reading.{request_at}
use Rattle.xdlms_services.specs.Requests.{request_bytes}
use Rattle.step_words.specs.declared.fault.Asked.{Asked}
use Rattle.step_words.specs.declared.fault.Asked.TheVariants as asked
use Rattle.step_words.specs.Parts.{ended, name_at, value_at}
use Rattle.step_words.specs.RequestWords.{request_words}

-- class, logical name and index, as `3/1.0.1.8.0.255/2` (own profile)
unfoldable pub descriptor_at : Reader Asked Descriptor
descriptor_at text = do
  class ← unsigned_at asked.Class (2 ^ 16 - 1) text
  behind_class ← mark_at asked.Slash (codes "/") class.1
  name ← name_at behind_class
  behind_name ← mark_at asked.Slash (codes "/") name.1
  index ← signed_at asked.Index 128 behind_name
  Ok (record { class_id = class.0; name = name.0; index = index.0 }, index.1)

-- two numbers, as `1..10` (own profile)
unfoldable pub pair_at : Asked → ℕ → Reader Asked (ℕ × ℕ)
pair_at what most text = do
  from ← unsigned_at what most text
  rest ← mark_at asked.Dots (codes "..") from.1
  to ← unsigned_at what most rest
  Ok ((from.0, to.0), to.1)

-- `A..B columns C..D` (own profile)
unfoldable pub entries_at : Reader Asked EntryDescriptor
entries_at text = do
  entries ← pair_at asked.Entry (2 ^ 32 - 1) text
  rest ← mark_at asked.Columns (codes " columns ") entries.1
  columns ← pair_at asked.Column (2 ^ 16 - 1) rest
  Ok (record { from_entry = entries.0.0; to_entry = entries.0.1; from_selected_value = columns.0.0; to_selected_value = columns.0.1 }, columns.1)

-- the parameter of a selection by entry (IEC 62056-6-2, Profile generic, entry_descriptor)
abbrev pub parameter_of : EntryDescriptor → Tree
parameter_of e = structure (trees (double_long_unsigned e.from_entry ∷ double_long_unsigned e.to_entry ∷ long_unsigned e.from_selected_value ∷ long_unsigned e.to_selected_value ∷ []))

-- a selection by entry, selector 2, where its word was found (own profile)
abbrev pub selection_step : List ℕ → Option (List ℕ) → Result (Option (ℕ × Argument) × List ℕ) (Stop Asked)
selection_step text None = Ok (None, text)
selection_step text (Some rest) = entries_at rest >>= λ e. Ok (Some (2, Value (data_of (parameter_of e.0))), e.1)

-- ` entries A..B columns C..D`, or nothing (own profile)
unfoldable pub selection_at : Reader Asked (Option (ℕ × Argument))
selection_at text = selection_step text (behind (codes " entries ") text)

-- a value in words (own profile)
unfoldable pub argument_at : Reader Asked Argument
argument_at text = value_at text >>= λ v. Ok (Value (data_of v.0), v.1)

-- a space and a value (own profile)
unfoldable pub given_at : Reader Asked Argument
given_at text = mark_at asked.Space (codes " ") text >>= argument_at

-- nothing, or the invoke byte, stands there (own profile)
abbrev pub is_over : List ℕ → Bool
is_over text = (length text == 0) || is_some (behind (codes " invoke ") text)

-- a value behind a space, unless nothing or the invoke byte stands there (own profile)
unfoldable pub parameter_at : Reader Asked Argument
parameter_at text = if is_over text then Ok (Absent, text) else given_at text

-- the invoke byte that digits are; C1 has no words (own profile)
abbrev pub invoke_in : List ℕ → Option ℕ
invoke_in digits = option_and_then (λ n. if n == 0xC1 then None else Some n) (number_in 255 digits)

-- the invoke byte by what stands behind its word, if that was found (own profile)
abbrev pub invoke_step : List ℕ → Option (List ℕ) → Result ℕ (Stop Asked)
invoke_step text None = if length text == 0 then Ok 0xC1 else stops asked.InvokeOrEnd text
invoke_step text (Some rest) = found asked.Invoke rest (invoke_in (front is_ascii_digit rest)) (past is_ascii_digit rest) >>= λ n. ended n.0 n.1

-- ` invoke N` at the end of the line, and C1 where nothing stands there (own profile)
unfoldable pub invoke_at : List ℕ → Result ℕ (Stop Asked)
invoke_at text = invoke_step text (behind (codes " invoke ") text)

-- what stands behind `get ` (own profile)
unfoldable pub get_at : List ℕ → Result Request (Stop Asked)
get_at text = do
  d ← descriptor_at text
  selection ← selection_at d.1
  invoke ← invoke_at selection.1
  Ok (Get invoke d.0 selection.0)

-- what stands behind `set ` (own profile)
unfoldable pub set_at : List ℕ → Result Request (Stop Asked)
set_at text = do
  d ← descriptor_at text
  value ← given_at d.1
  invoke ← invoke_at value.1
  Ok (Set invoke d.0 false value.0)

-- what stands behind `act ` (own profile)
unfoldable pub act_at : List ℕ → Result Request (Stop Asked)
act_at text = do
  d ← descriptor_at text
  parameter ← parameter_at d.1
  invoke ← invoke_at parameter.1
  Ok (Act invoke d.0 parameter.0)

-- the words of the request that bytes are, if they are one that has words (own profile)
unfoldable pub words_in : List ℕ → Option (List ℕ)
words_in bytes = option_and_then request_words (request_at bytes)

-- the bytes, unless they are a request that has words; else reading stops in front of `apdu` (own profile)
abbrev pub wordless : List ℕ → List ℕ → Result (List ℕ) (Stop Asked)
wordless text bytes = if is_some (words_in bytes) then stops asked.Request text else Ok bytes

-- the bytes that upper-case hex digits are, one at least (own profile)
unfoldable pub bytes_at : Reader Asked (List ℕ)
bytes_at text = found asked.Bytes text (bytes_in (front is_digit text)) (past is_digit text)

-- what stands behind `apdu `: the bytes, one at least, to the end of the line (own profile)
unfoldable pub apdu_at : List ℕ → List ℕ → Result (List ℕ) (Stop Asked)
apdu_at text digits = do
  bytes ← bytes_at digits
  whole ← ended bytes.0 bytes.1
  wordless text whole

-- by what stands behind the word of a request, if it was found; else by another word (own profile)
abbrev pub request_or : Option (List ℕ) → (List ℕ → Result Request (Stop Asked)) → Result (List ℕ) (Stop Asked) → Result (List ℕ) (Stop Asked)
request_or None request other = other
request_or (Some rest) request other = request rest >>= λ r. Ok (request_bytes r)

-- by what stands behind `apdu `, if it was found; else none of the words stands there (own profile)
abbrev pub apdu_or : List ℕ → Option (List ℕ) → Result (List ℕ) (Stop Asked)
apdu_or text None = stops asked.Service text
apdu_or text (Some digits) = apdu_at text digits

-- the bytes of what a client asks in words (own profile)
unfoldable pub asked_bytes : List ℕ → Result (List ℕ) (Stop Asked)
asked_bytes text =
    request_or (behind (codes "get ") text) get_at
    (request_or (behind (codes "set ") text) set_at
    (request_or (behind (codes "act ") text) act_at (apdu_or text (behind (codes "apdu ") text))))
