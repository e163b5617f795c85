-- What a line says, and what is written.
use Rattle.std.specs.Prelude.{ℕ, ◌+◌, ◌-◌, ◌%◌, ◌==◌, Bool, ◌&&◌, ◌||◌, is_some, true, false, List, [], ◌∷◌, ◌++◌, length, take, drop, codes, position, slice_get, Option, Some, None, if◌then◌else◌}
use Rattle.std.specs.Fmt.{decimal}
use Rattle.std.specs.Option.{option_map_or}
use Rattle.std.specs.Str.{bytes_eq}
use Rattle.hex.specs.Hex.{encode_upper}
use Rattle.cosem_data.specs.Tree.{Tree}
use Rattle.cosem_data.specs.View.{data_of}
use Rattle.cosem_data.specs.Cells.{cell}
use Rattle.cosem_data.specs.declared.name.LogicalName.{LogicalName}
use Rattle.cosem_data.specs.declared.cell.CellRef.{CellRef}
use Rattle.meter_theory.specs.Plan.{Plan, Object, class_of, client_named, clock_object, object_at}
use Rattle.meter_theory.specs.Times.{Moment}
use Rattle.value_text.specs.Texts.{name_in, bytes_in, value_in}
use Rattle.value_words.specs.Stopping.{behind}
use Rattle.civil_moment.specs.MomentText.{moment_in}
use Rattle.line_server.specs.Words.{seconds_in}
use Rattle.line_server.specs.declared.line.Line.{Line}
use Rattle.line_server.specs.declared.line.Line.TheVariants.{Skipped, Ask, Input, Evaluate, At, Ticks, Unreadable}
use Rattle.line_server.specs.declared.reason.Reason.{Reason}
use Rattle.line_server.specs.declared.reason.Reason.TheVariants as reasons

-- the class of the object that an input goes to; where there is none it may be any, here 1, for then nothing changes (own profile)
abbrev pub class_at : Option Object → ℕ
class_at None = 1
class_at (Some o) = class_of o.part

-- the cell that an input to the object with this name goes to: its attribute 2 (own profile)
abbrev pub input_cell : Plan → LogicalName → CellRef
input_cell plan name = cell (class_at (object_at plan name)) name 2

-- what follows `in`: a logical name, and a value in hex with nothing behind it (own profile)
abbrev pub input_of : Plan → Option LogicalName → Option Tree → Line
input_of plan (Some name) (Some value) = Input (input_cell plan name) (data_of value)
input_of plan None value = Unreadable reasons.Name
input_of plan (Some name) None = Unreadable reasons.Value

-- the same, with the space between the two at this place
abbrev pub input_at : Plan → List ℕ → Option ℕ → Line
input_at plan text None = Unreadable reasons.Short
input_at plan text (Some space) = input_of plan (name_in (take space text)) (value_in (drop (space + 1) text))

-- what follows `eval`: the logical name of a register monitor (own profile)
abbrev pub evaluation_of : Option LogicalName → Line
evaluation_of None = Unreadable reasons.Name
evaluation_of (Some name) = Evaluate name

-- what follows `at`: a moment (own profile)
abbrev pub moment_of : Option Moment → Line
moment_of None = Unreadable reasons.Moment
moment_of (Some moment) = At moment

-- `at` sets the clock of a meter that has no clock object, and of no other (own profile)
abbrev pub moment_at : Option Object → Option Moment → Line
moment_at None moment = moment_of moment
moment_at (Some clock) moment = Unreadable reasons.Clock

-- what follows `tick`: how many seconds pass (own profile)
abbrev pub ticks_of : Option ℕ → Line
ticks_of None = Unreadable reasons.Seconds
ticks_of (Some seconds) = Ticks seconds

-- `tick` begins a step over a plan of version 2; before, it may be a client's name (own profile)
abbrev pub begins_ticks : Plan → List ℕ → Bool
begins_ticks plan word = bytes_eq word (codes "tick") && (plan.version == 2)

-- whether a text begins as what a client asks does in words (own profile)
abbrev pub begins_words : List ℕ → Bool
begins_words text = is_some (behind (codes "get ") text) || (is_some (behind (codes "set ") text) || (is_some (behind (codes "act ") text) || is_some (behind (codes "apdu ") text)))

-- why hex digits are none: they are words, they are odd in number, or one is no hex digit (own profile)
abbrev pub digits_fault : List ℕ → Reason
digits_fault text = if begins_words text then reasons.Words else if length text % 2 == 1 then reasons.OddDigits else reasons.Digits

-- the APDU of a client, which has at least one byte (own profile)
abbrev pub ask_of : ℕ → List ℕ → Line
ask_of client [] = Unreadable reasons.Short
ask_of client (b ∷ bs) = Ask (record { client = client; apdu = b ∷ bs })

-- whether a byte order mark stands in front of the text, as some editors put it there (own profile)
abbrev pub begins_with_mark : List ℕ → Bool
begins_with_mark text = is_some (behind (239 ∷ 187 ∷ 191 ∷ []) text)

-- why a word is no client's name: a byte order mark stands in front of it, or there is no such client (own profile)
abbrev pub client_fault : List ℕ → Reason
client_fault word = if begins_with_mark word then reasons.Mark else reasons.Client

-- what follows the client's word and the space: hex digits in either case, two a byte (own profile)
abbrev pub asked_by : Option ℕ → (word text : List ℕ) → Line
asked_by None word text = Unreadable (client_fault word)
asked_by (Some client) word text = option_map_or (ask_of client) (bytes_in text) (Unreadable (digits_fault text))

-- the place of the first space
abbrev pub first_space : List ℕ → Option ℕ
first_space text = position (λ c. c == 32) text

-- the first word and what follows it: `in NAME HEX`, `eval NAME`, `at MOMENT`, `tick N`, else `CLIENT HEX` (own profile)
abbrev pub said_by : Plan → List ℕ → List ℕ → Line
said_by plan word text =
    if bytes_eq word (codes "in") then input_at plan text (first_space text)
    else if bytes_eq word (codes "eval") then evaluation_of (name_in text)
    else if bytes_eq word (codes "at") then moment_at (clock_object plan) (moment_in text)
    else if begins_ticks plan word then ticks_of (seconds_in text)
    else asked_by (client_named plan word) word text

-- the first word, the space at this place, and what follows (own profile)
abbrev pub said_at : Plan → List ℕ → Option ℕ → Line
said_at plan line None = Unreadable reasons.Short
said_at plan line (Some space) = said_by plan (take space line) (drop (space + 1) line)

-- whether there is a byte, and it is 0D (own profile)
abbrev pub is_return : Option ℕ → Bool
is_return None = false
is_return (Some b) = b == 13

-- whether the byte 0D ends the text, as some editors put it before a newline (own profile)
abbrev pub ends_in_return : List ℕ → Bool
ends_in_return text = is_return (slice_get text (length text - 1))

-- where such a byte ends an unreadable line, that is told as the reason (own profile)
abbrev pub with_return : Bool → Line → Line
with_return true (Unreadable why) = Unreadable reasons.Return
with_return _ said = said

-- what a line says: nothing where it is empty or begins with `#`, else what its words do (own profile)
abbrev pub line_of : Plan → List ℕ → Line
line_of plan [] = Skipped
line_of plan (b ∷ bs) = if b == 35 then Skipped else with_return (ends_in_return (b ∷ bs)) (said_at plan (b ∷ bs) (first_space (b ∷ bs)))

-- the APDU of a reply in upper case hex, a line of its own (own profile)
abbrev pub reply_text : List ℕ → List ℕ
reply_text reply = encode_upper reply ++ 10 ∷ []

-- `line N: unreadable`, a line of its own (own profile)
abbrev pub unreadable_text : ℕ → List ℕ
unreadable_text number = codes "line " ++ (decimal number ++ codes ": unreadable\n")
