-- What the parts of the feeder say.
use Rattle.std.specs.Prelude.{◌≡◌, ℕ, ◌+◌, ◌≤◌, List, [], ◌++◌, length, Option, Some, None, Result, Ok, Err}
use Rattle.std.specs.Borrow.{Bor}
use Rattle.tcp_wrapper.specs.Stream.{IsPartial, Refuses, Causes, header_fault, word_at, frame_of, IsFrame}
use Rattle.tcp_wrapper.specs.declared.message.Message.{Message}
use Rattle.tcp_wrapper.specs.declared.fault.WrapFault.{WrapFault}
use Rattle.tcp_wrapper.specs.declared.feeder.Judgement.{Judgement}
use Rattle.tcp_wrapper.specs.declared.feeder.Judgement.TheVariants.{Partial, Whole, Refused}

-- what the bytes begin with: less than a frame, a whole frame that is so long, or a wrong header (own profile)
abbrev pub Judges : Judgement → List ℕ → Type 0
Judges Partial bytes = IsPartial bytes
Judges (Whole size) bytes = (size ≡ 8 + word_at bytes 6) × (size ≤ length bytes) × (header_fault bytes ≡ None)
Judges (Refused fault) bytes = Refuses fault bytes × Causes fault bytes

-- of the bytes a frame was taken and nothing is held, or some are held, less than a frame, and the rest is left (own profile)
abbrev pub Leaves : List ℕ → Option Message → List ℕ → List ℕ → Type 0
Leaves bytes None rest held = (bytes ≡ held ++ rest) × IsPartial held
Leaves bytes (Some message) rest held = (bytes ≡ frame_of message ++ rest) × IsFrame message × (held ≡ [])

-- a frame or some bytes were taken, or a fault stands next (own profile)
abbrev pub Takes : List ℕ → Result (Option Message × Bor (List ℕ)) WrapFault → List ℕ → Type 0
Takes bytes (Ok taken) held = Leaves bytes taken.0 taken.1.now held
Takes bytes (Err fault) held = Causes fault bytes
