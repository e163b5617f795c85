-- What an entry of a trail tells of a step: its note when it was taken, by whom, and with what result, and its line of which client it is. All of it is own profile. Texts
-- are lists of bytes.
use Rattle.std.specs.Prelude.{◌≡◌, ◌≢◌, ◌⊎◌, ℕ, pos, ◌+◌, ◌==◌, Bool, not, ◌&&◌, ◌||◌, List, [], ◌∷◌, codes, take, drop, position, Option, None, Some, is_some, option_map, option_and_then, if◌then◌else◌}
use Rattle.std.specs.Str.{bytes_eq}
use Rattle.meter_theory.specs.ClientNames.{is_client_name}
use Rattle.step_words.specs.StepLines.{seconds_in}
use Rattle.utc_moment.specs.Moments.{bare_text, moment_text, seconds_of}
use Rattle.utc_moment.specs.declared.moment.UtcMoment.{UtcMoment}

-- Parts of a text

-- a text without the space in front of it, if there is one
abbrev pub unspaced : List ℕ → List ℕ
unspaced [] = []
unspaced (c ∷ text) = if c == 32 then text else c ∷ text

-- where the first of these bytes stands
abbrev pub place_of : (mark : ℕ) → List ℕ → Option ℕ
place_of mark text = position (λ b. b == mark) text

-- what stands before that place, which is all of the text where there is none
abbrev pub before : Option ℕ → List ℕ → List ℕ
before None text = text
before (Some place) text = take place text

-- what stands behind it
abbrev pub behind : Option ℕ → List ℕ → Option (List ℕ)
behind None text = None
behind (Some place) text = Some (drop (place + 1) text)

-- up to the first space, 32
abbrev pub first_word : List ℕ → List ℕ
first_word text = before (place_of 32 text) text

-- When

-- the first word of a note, behind a space
abbrev pub moment_word : (note : List ℕ) → List ℕ
moment_word note = first_word (unspaced note)

-- the text of a moment, with Z or without
abbrev pub IsTextOf : UtcMoment → List ℕ → Type 0
IsTextOf m text = (text ≡ moment_text m) ⊎ (text ≡ bare_text m)

-- how many seconds after 1970-01-01T00:00:00Z the moment is that a note tells: its first word is the text of that moment, or of none
abbrev pub IsMomentOf : (note : List ℕ) → (seconds : Option ℕ) → Type 0
IsMomentOf note (Some seconds) = (m : UtcMoment) × IsTextOf m (moment_word note) × (seconds_of m ≡ pos seconds)
IsMomentOf note None = (m : UtcMoment) → (moment_word note ≢ moment_text m) × (moment_word note ≢ bare_text m)

-- the text of that moment, if a note tells one
abbrev pub moment_in : (note : List ℕ) → (tells_moment : Bool) → Option (List ℕ)
moment_in note tells_moment = if tells_moment then Some (moment_word note) else None

-- By whom

-- the note of seconds that moved the clock alone, and waited for the next step
abbrev pub waited : List ℕ
waited = codes " seconds that moved the clock alone"

-- What stands behind the moment, or behind - where none is known; of seconds that waited, that the clock took them. A note that
-- begins otherwise has another form.
abbrev pub told_in : (note : List ℕ) → (tells_moment : Bool) → Option (List ℕ)
told_in note tells_moment =
    if bytes_eq note waited then Some (codes "clock")
    else if tells_moment || bytes_eq (moment_word note) (codes "-") then behind (place_of 32 (unspaced note)) (unspaced note)
    else None

-- who took the step: what is told up to the first colon, 58
abbrev pub taker_in : (note : List ℕ) → (tells_moment : Bool) → Option (List ℕ)
taker_in note tells_moment = option_map (λ told. before (place_of 58 told) told) (told_in note tells_moment)

-- its result: what is told behind that
abbrev pub result_in : (note : List ℕ) → (tells_moment : Bool) → Option (List ℕ)
result_in note tells_moment = option_and_then (λ told. option_map unspaced (behind (place_of 58 told) told)) (told_in note tells_moment)

-- Of which client

-- what stands behind a word says that seconds pass
abbrev pub is_tick : (word behind_it : List ℕ) → Bool
is_tick word behind_it = bytes_eq word (codes "tick") && is_some (seconds_in behind_it)

-- the word before what stands behind it, if there is more and a client may be named so; seconds that pass are no client's
abbrev pub client_before : (word : List ℕ) → (behind_it : Option (List ℕ)) → Option (List ℕ)
client_before word None = None
client_before word (Some rest) = if is_client_name word && not (is_tick word rest) then Some word else None

-- the client whose line it is
abbrev pub client_of : (line : List ℕ) → Option (List ℕ)
client_of line = client_before (first_word line) (behind (place_of 32 line) line)
