-- Where in a stream a frame stands, and how that is told. All of it is own profile.
use Rattle.std.specs.Prelude.{ℕ, ◌+◌, List, ◌++◌, length, codes}
use Rattle.std.specs.Fmt.{decimal}
use Rattle.tcp_wrapper.specs.declared.message.Message.{Message}
use Rattle.tcp_wrapper.specs.Stream.{frames_of}
use Rattle.tcp_wrapper.specs.declared.place.FramePlace.{FramePlace}

-- what stands behind these frames: its number is one more than they are, and their bytes stand before it
abbrev pub place_behind : List Message → FramePlace
place_behind frames = record { frame = length frames + 1; byte = length (frames_of frames) }

-- a place behind these frames, which begin at another
abbrev pub moved : FramePlace → List Message → FramePlace
moved place frames = record { frame = place.frame + length frames; byte = place.byte + length (frames_of frames) }

-- bytes are counted from 0
abbrev pub place_words : FramePlace → List ℕ
place_words place = codes "frame " ++ (decimal place.frame ++ (codes ", which begins at byte " ++ decimal place.byte))
