-- What the frame of an answer says of the association.
use Rattle.std.specs.Prelude.{ℕ, ◌+◌, ◌*◌, ◌==◌, ◌&&◌, nat_le, nat_lt, Bool, List, length, drop, slice_index, if◌then◌else◌}
use Rattle.peer_watch.specs.declared.answers.Answer.{Answer}
use Rattle.peer_watch.specs.declared.answers.Answer.TheVariants.{Associated, Refused, Released, Other}

-- 16 bits, the high byte first (IEC 62056-4-7, the wrapper header)
abbrev pub word : ℕ → ℕ → ℕ
word high low = 256 * high + low

-- the wPort that a frame goes to (IEC 62056-4-7, the wrapper header)
abbrev pub destination : List ℕ → ℕ
destination frame = word (slice_index frame 4) (slice_index frame 5)

-- how many bytes its APDU has (IEC 62056-4-7, the wrapper header)
abbrev pub announced : List ℕ → ℕ
announced frame = word (slice_index frame 6) (slice_index frame 7)

-- the bytes are a header and the whole APDU that it announces
abbrev pub is_whole : List ℕ → Bool
is_whole frame = nat_le 8 (length frame) && (length frame == 8 + announced frame)

-- how many bytes a frame has of which this is the beginning
abbrev pub frame_length : List ℕ → ℕ
frame_length frame = if nat_le 8 (length frame) then 8 + announced frame else length frame

-- the APDU is an AARE of this server: it has the tag 61, and reaches to the diagnostic, at 24 (IEC 62056-5-3, AARE-apdu; the places are own profile)
abbrev pub is_aare : List ℕ → Bool
is_aare apdu = (slice_index apdu 0 == 0x61) && nat_lt 24 (length apdu)

-- what an APDU that goes to a client says of its association: an AARE has its result at 17, of which 0 is accepted, and an RLRE has the tag 63 (IEC 62056-5-3, AARE-apdu, RLRE-apdu)
abbrev pub answer_to : ℕ → List ℕ → Answer
answer_to client apdu =
    if is_aare apdu
    then (if slice_index apdu 17 == 0 then Associated client else Refused client (slice_index apdu 24))
    else (if slice_index apdu 0 == 0x63 then Released else Other)

-- what the frame of an answer says of the association
abbrev pub answer_in : List ℕ → Answer
answer_in frame = if is_whole frame then answer_to (destination frame) (drop 8 frame) else Other
