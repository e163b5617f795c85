-- The words of a reply (own profile, by the names of IEC 62056-5-3). Texts are lists of bytes.
use Rattle.std.specs.Prelude.{ℕ, ◌==◌, List, [], ◌∷◌, ◌++◌, length, codes, Option, Some, None, option_map, option_and_then, unwrap_or, Result, Ok, if◌then◌else◌}
use Rattle.cosem_axdr.specs.Reading.{data_at}
use Rattle.value_text.specs.Texts.{bytes_in, whole}
use Rattle.value_words.specs.Words.{value_words}
use Rattle.value_words.specs.declared.stop.Stop.{Stop}
use Rattle.value_words.specs.Stopping.{stops}
use Rattle.step_words.specs.declared.fault.Asked.{Asked}
use Rattle.step_words.specs.declared.fault.Asked.TheVariants as asked
use Rattle.step_words.specs.RequestWords.{apdu_words, invoke_words}

-- a result and its number (IEC 62056-5-3, Data-Access-Result)
abbrev pub result_words : ℕ → Option (List ℕ)
result_words code =
    if code == 0 then Some (codes "success (0)")
    else if code == 2 then Some (codes "temporary-failure (2)")
    else if code == 3 then Some (codes "read-write-denied (3)")
    else if code == 4 then Some (codes "object-undefined (4)")
    else if code == 9 then Some (codes "object-class-inconsistent (9)")
    else if code == 12 then Some (codes "type-unmatched (12)")
    else if code == 13 then Some (codes "scope-of-access-violated (13)")
    else if code == 250 then Some (codes "other-reason (250)")
    else None

-- what was wrong with the state (IEC 62056-5-3, exception-response, state-error)
abbrev pub state_words : ℕ → Option (List ℕ)
state_words code =
    if code == 1 then Some (codes "service-not-allowed")
    else if code == 2 then Some (codes "service-unknown")
    else None

-- what was wrong with the service (IEC 62056-5-3, exception-response, service-error)
abbrev pub service_words : ℕ → Option (List ℕ)
service_words code =
    if code == 1 then Some (codes "operation-not-possible")
    else if code == 2 then Some (codes "service-not-supported")
    else if code == 3 then Some (codes "other-reason")
    else if code == 4 then Some (codes "pdu-too-long")
    else if code == 5 then Some (codes "deciphering-error")
    else if code == 6 then Some (codes "invocation-counter-error")
    else None

-- `exception STATE SERVICE`, if both have a name (IEC 62056-5-3, exception-response)
abbrev pub exception_words : ℕ → ℕ → Option (List ℕ)
exception_words state service = option_and_then (λ s. option_map (λ e. (codes "exception " ++ s) ++ (32 ∷ e)) (service_words service)) (state_words state)

-- the value that the bytes are to their end (IEC 62056-5-3, Get-Data-Result)
abbrev pub shown_words : List ℕ → Option (List ℕ)
shown_words bytes = option_map value_words (whole (data_at 16 bytes))

-- the invoke byte behind the words, if there are any (own profile)
abbrev pub invoked : ℕ → Option (List ℕ) → Option (List ℕ)
invoked invoke words = option_map (λ w. w ++ invoke_words invoke) words

-- a result alone (IEC 62056-5-3, Data-Access-Result)
abbrev pub code_words : List ℕ → Option (List ℕ)
code_words (code ∷ []) = result_words code
code_words _ = None

-- a result without a return parameter (IEC 62056-5-3, Action-Response-With-Optional-Data)
abbrev pub action_words : List ℕ → Option (List ℕ)
action_words (code ∷ absent ∷ []) = if absent == 0 then result_words code else None
action_words _ = None

-- 00 and a value, or 01 and a result (IEC 62056-5-3, Get-Data-Result)
abbrev pub got_words : List ℕ → Option (List ℕ)
got_words [] = None
got_words (choice ∷ rest) = if choice == 0 then shown_words rest else if choice == 1 then code_words rest else None

-- what a service answers, by the tag of its response (IEC 62056-5-3, xDLMS-APDU)
abbrev pub answer_words : ℕ → List ℕ → Option (List ℕ)
answer_words tag rest =
    if tag == 0xC4 then got_words rest
    else if tag == 0xC5 then code_words rest
    else if tag == 0xC7 then action_words rest
    else None

-- the words of a response of the normal form, 01, and of an exception-response, 0xD8, if it has any (IEC 62056-5-3, xDLMS-APDU)
abbrev pub response_words : List ℕ → Option (List ℕ)
response_words (tag ∷ form ∷ invoke ∷ rest) =
    if tag == 0xD8 then (if length rest == 0 then exception_words form invoke else None)
    else if form == 1 then invoked invoke (answer_words tag rest)
    else None
response_words _ = None

-- the words of a reply; any other APDU is `apdu HEX` (own profile)
abbrev pub reply_words : List ℕ → List ℕ
reply_words bytes = unwrap_or (response_words bytes) (apdu_words bytes)

-- the words of a reply in hex digits, if it has a byte (own profile)
abbrev pub reply_step : List ℕ → Option (List ℕ) → Result (List ℕ) (Stop Asked)
reply_step text (Some (b ∷ bytes)) = Ok (reply_words (b ∷ bytes))
reply_step text _ = stops asked.HexDigits text

-- the words of a reply in hex (own profile)
unfoldable pub decoded_reply : List ℕ → Result (List ℕ) (Stop Asked)
decoded_reply text = reply_step text (bytes_in text)
