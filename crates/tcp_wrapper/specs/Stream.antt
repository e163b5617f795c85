-- A stream of frames: each is a header of four words of 16 bits, and then the APDU that it announces.
use Rattle.std.specs.Prelude.{◌≡◌, ℕ, ◌+◌, ◌*◌, ◌^◌, ◌<◌, ◌≤◌, List, ◌++◌, length, Option, Some, None, ◌⊎◌, ◌==◌, nat_le, if◌then◌else◌, slice_index, All}
use Rattle.std.specs.List.{flat_map}
use Rattle.std.specs.Int.{w16, to_be_bytes}
use Rattle.tcp_wrapper.specs.declared.message.Message.{Message}
use Rattle.tcp_wrapper.specs.declared.fault.WrapFault.{WrapFault}
use Rattle.tcp_wrapper.specs.declared.fault.WrapFault.TheVariants.{Version, Destination, Length, Memory, Failed}

-- ---- what a frame is

-- a number in 16 bits, big endian: IEC 62056-4-7, the wrapper header
abbrev pub word : ℕ → List ℕ
word n = to_be_bytes w16 n

-- the version 0001, the source wPort, the destination wPort, the length, and then the APDU: IEC 62056-4-7, the wrapper header
abbrev pub framed : ℕ → ℕ → List ℕ → List ℕ
framed source destination apdu = word 1 ++ (word source ++ (word destination ++ (word (length apdu) ++ apdu)))

-- a message stands in a frame to the server's wPort, 0001 (own profile)
abbrev pub frame_of : Message → List ℕ
frame_of message = framed message.source 1 message.apdu

-- it comes from a wPort of 16 bits (IEC 62056-4-7, the wrapper header), and has at most 1,024 bytes (own profile)
abbrev pub IsFrame : Message → Type 0
IsFrame message = (message.source < 2 ^ 16) × (length message.apdu ≤ 1024)

-- the frames of these messages, one behind the other: IEC 62056-4-7, the wrapper over TCP
abbrev pub frames_of : List Message → List ℕ
frames_of messages = flat_map frame_of messages

-- the stream is the frames of these messages, and then the rest: IEC 62056-4-7, the wrapper over TCP
pub record Splits (stream : List ℕ) (messages : List Message) (rest : List ℕ) : Type 0 where
  pub whole : stream ≡ frames_of messages ++ rest
  pub each : All IsFrame messages

-- ---- what stands where no whole frame does

-- the word at a place: IEC 62056-4-7, the wrapper header
abbrev pub word_at : List ℕ → ℕ → ℕ
word_at bytes place = 256 * slice_index bytes place + slice_index bytes (place + 1)

-- the first that is wrong with a header: its version, its destination, its length (own profile)
abbrev pub header_fault : List ℕ → Option WrapFault
header_fault bytes =
    if word_at bytes 0 == 1
    then (if word_at bytes 4 == 1 then (if nat_le (word_at bytes 6) 1024 then None else Some Length) else Some Destination)
    else Some Version

-- less than a frame: less than a header, or a right header and less than what it announces (own profile)
abbrev pub IsPartial : List ℕ → Type 0
IsPartial bytes = (length bytes < 8) ⊎ ((8 ≤ length bytes) × (header_fault bytes ≡ None) × (length bytes < 8 + word_at bytes 6))

-- a whole header stands there, and this is the first that is wrong with it (own profile)
abbrev pub Refuses : WrapFault → List ℕ → Type 0
Refuses fault bytes = (8 ≤ length bytes) × (header_fault bytes ≡ Some fault)

-- no whole frame stands there: less than a frame, or a wrong header (own profile)
abbrev pub Ends : List ℕ → Type 0
Ends rest = IsPartial rest ⊎ ((fault : WrapFault) × Refuses fault rest)

-- ---- what is told of a stream

-- why no frame was taken from the bytes that stand next: a wrong header there, or want of memory, which may come anywhere (own profile)
abbrev pub Causes : WrapFault → List ℕ → Type 0
Causes Version rest = Refuses Version rest
Causes Destination rest = Refuses Destination rest
Causes Length rest = Refuses Length rest
Causes Memory rest = Unit {0}
Causes Failed rest = ⊥

-- these messages of the stream so far were given; then less than a frame is held, or a fault was told that stands there, and nothing is held from then on (own profile)
abbrev pub Reads : List ℕ → List Message → Option WrapFault → Option (List ℕ) → Type 0
Reads stream messages None (Some held) = Splits stream messages held × IsPartial held
Reads stream messages None None = ⊥
Reads stream messages (Some fault) (Some held) = ⊥
Reads stream messages (Some fault) None = (rest : List ℕ) × Splits stream messages rest × Causes fault rest
