-- What is told of a fault that ends a connection (own profile).
use Rattle.std.specs.Prelude.{ℕ, List, ◌++◌, Option, Some, None, codes}
use Rattle.tcp_wrapper.specs.Faults.{fault_words}
use Rattle.tcp_wrapper.specs.Places.{place_words}
use Rattle.tcp_wrapper.specs.declared.place.FramePlace.{FramePlace}
use Rattle.frame_server.specs.declared.fault.ServeFault.{ServeFault}
use Rattle.frame_server.specs.declared.fault.ServeFault.TheVariants.{Read, Write, Wrap, Cut, Memory, GaveUp}

-- the words of a fault, wherever it was met
abbrev pub serve_fault_words : ServeFault → List ℕ
serve_fault_words Read = codes "the frames can't be read"
serve_fault_words Write = codes "the answers can't be written"
serve_fault_words (Wrap fault place) = fault_words fault
serve_fault_words (Cut place) = codes "input ended inside a frame"
serve_fault_words Memory = codes "out of memory"
serve_fault_words GaveUp = codes "the seat gave up"

-- where a fault of a frame was met
abbrev pub place_of : ServeFault → Option FramePlace
place_of (Wrap fault place) = Some place
place_of (Cut place) = Some place
place_of fault = None

-- words behind the place that they are told of, where there is one
abbrev pub placed : Option FramePlace → List ℕ → List ℕ
placed (Some place) words = place_words place ++ (codes ": " ++ words)
placed None words = words

-- a fault as it is told
abbrev pub told_words : ServeFault → List ℕ
told_words fault = placed (place_of fault) (serve_fault_words fault)
