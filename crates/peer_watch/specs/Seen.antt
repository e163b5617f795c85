-- What is seen of a connection, step by step. All of it is own profile.
use Rattle.std.specs.Prelude.{ℕ, ◌+◌, ◌-◌, ◌^◌, ◌==◌, min, List, Some, None, if◌then◌else◌}
use Rattle.peer_watch.specs.Frames.{answer_in, frame_length}
use Rattle.peer_watch.specs.declared.answers.Answer.{Answer}
use Rattle.peer_watch.specs.declared.answers.Answer.TheVariants.{Associated, Refused, Released, Other}
use Rattle.peer_watch.specs.declared.seen.Seen.{Seen}

-- one more whole frame came; there are never more than 64 bits count
abbrev pub with_frame : Seen → Seen
with_frame seen = record seen { requests = min (seen.requests + 1) (2 ^ 64 - 1) }

-- an answer says this: who is associated, and whether that was refused once more
abbrev pub with_answer : Answer → Seen → Seen
with_answer (Associated client) seen = record seen { client = Some client }
with_answer (Refused client diagnostic) seen = record seen { client = None; refusals = min (seen.refusals + 1) (2 ^ 32 - 1) }
with_answer Released seen = record seen { client = None }
with_answer Other seen = seen

-- what the frame says that begins with bytes which are to be written, unless they go on with one
abbrev pub told_by : List ℕ → Seen → Answer
told_by bytes seen = if seen.unwritten == 0 then answer_in bytes else Other

-- bytes are to be written: where a frame begins with them, its answer is seen once, and it is as long as its header says
abbrev pub with_bytes : List ℕ → Seen → Seen
with_bytes bytes seen =
    if seen.unwritten == 0 then record (with_answer (answer_in bytes) seen) { unwritten = frame_length bytes } else seen

-- so many of them were written
abbrev pub with_written : ℕ → Seen → Seen
with_written count seen = record seen { unwritten = seen.unwritten - count }
