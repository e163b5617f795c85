use Rattle.std.proofs.Common.{◌≡◌, ◌+◌, length, take}
use Rattle.tcp_wrapper.specs.Stream.{frames_of}
use Rattle.tcp_wrapper.proofs.place.FramePlace.behind.Given as goal

-- the bytes of the frames so far were added
abbrev pub invariant-loop-message : goal.invariant-loop-message
invariant-loop-message l = l.byte ≡ l.self.byte + length (frames_of (take l.message-index l.messages))
