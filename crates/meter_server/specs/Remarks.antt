-- What is told beside a verdict or a list, as far as there is memory for it (own profile throughout).
use Rattle.std.specs.Prelude.{◌≡◌, ◌⊎◌, ◌<◌, ◌++◌, ℕ, Bool, true, false, List, [], codes, length, string_bytes, Option, Result, Ok, Err, String}
use Rattle.std.specs.Global.{Global}
use Rattle.std.specs.Io.KnownBytes.{Appends}
use Rattle.cosem_data.specs.declared.memory.Memory.{Memory}
use Rattle.whole_writes.specs.declared.WriteFailed.{WriteFailed}
use Rattle.explanations.specs.Lines.{AreLines}
use Rattle.meter_server.specs.declared.remarks.Remarks.{Remarks}

-- lines that are told, and whether memory was refused for more of them
pub record Told : Type 0 where
  pub lines : List ℕ
  pub is_cut : Bool

abbrev pub told_of : Remarks → Told
told_of remarks = record { lines = string_bytes remarks.lines; is_cut = remarks.is_cut }

-- these lines are told, and are all that there is to tell
abbrev pub whole : List ℕ → Told
whole lines = record { lines = lines; is_cut = false }

-- these lines are told, and memory was refused for more
abbrev pub cut_behind : List ℕ → Told
cut_behind lines = record { lines = lines; is_cut = true }

-- the lines that were made are told; or none, where memory was refused for them
abbrev pub made : Result (String Global) Memory → Told
made (Ok lines) = whole (string_bytes lines)
made (Err memory) = cut_behind []

-- what stands behind lines: where memory was refused for more, that this was so
abbrev pub ending_of : (is_cut : Bool) → List ℕ
ending_of true = codes "cosem-flow: no memory to tell more\n"
ending_of false = []

-- the text of what is told
abbrev pub told_text : Told → List ℕ
told_text told = told.lines ++ ending_of told.is_cut

-- a text was written on standard error, or a beginning of it, behind which a write failed
abbrev pub WritesError : List ℕ → (before after : Option (List ℕ)) → Result (Unit {0}) WriteFailed → Type 0
WritesError text before after (Ok u) = Appends before after text
WritesError text before after (Err failed) = (front : List ℕ) × (left : List ℕ) × (text ≡ front ++ left) × Appends before after front × (0 < length left)

-- all is told, and says so; or memory was refused for it
abbrev pub IsTold : (List ℕ → Type 0) → Told → Type 0
IsTold Says told = ((lines : List ℕ) × Says lines × (told ≡ whole lines)) ⊎ (told ≡ cut_behind [])

-- lines are told that a terminal may get, whatever stands in the texts of which they tell
abbrev pub AreTold : Told → Type 0
AreTold told = IsTold AreLines told

-- the one is told, and the other behind it
abbrev pub joined : (front behind : Told) → Told
joined front behind = record { lines = front.lines ++ behind.lines; is_cut = behind.is_cut }

-- what is told goes on behind a front, which is all that is told where memory was refused for more of it, or for going on
abbrev pub GoesOn : (front behind told : Told) → Type 0
GoesOn front behind told = ((front.is_cut ≡ false) × (told ≡ joined front behind)) ⊎ (told ≡ cut_behind front.lines)

-- something is told so, and something else behind it
abbrev pub TellsBoth : (Tells TellsBehind : Told → Type 0) → Told → Type 0
TellsBoth Tells TellsBehind told = (front : Told) × (behind : Told) × Tells front × TellsBehind behind × GoesOn front behind told
