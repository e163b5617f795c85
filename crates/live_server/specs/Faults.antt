-- What is told where connections are no longer served (own profile).
use Rattle.std.specs.Prelude.{ℕ, ◌<◌, List, codes}
use Rattle.live_server.specs.Binding.{bind_words}
use Rattle.live_server.specs.declared.fault.ServerFault.{ServerFault}
use Rattle.live_server.specs.declared.fault.ServerFault.TheVariants.{Bind, Listen, Memory, GaveUp, Board, Full}

abbrev pub fault_words : ServerFault → List ℕ
fault_words (Bind fault) = bind_words fault
fault_words Listen = codes "connections can't be taken there"
fault_words Memory = codes "out of memory"
fault_words GaveUp = codes "a seat gave up"
fault_words Board = codes "the meter has no port for a seat"
fault_words Full = codes "more steps were kept than can be counted"

-- at one of the seats of a server, it may give up
abbrev pub MayGiveUp : (ℕ → Type 0) → Type 0
MayGiveUp may_give_up = ∥ ((seat : ℕ) × (seat < 64) × may_give_up seat) ∥₁

-- what a fault says of gates: where a seat gave up, there is a gate that may have one give up
abbrev pub IsFaultBy : {G : Type 0} → (G → ℕ → Type 0) → ServerFault → Type 0
IsFaultBy {G} may_give_up GaveUp = (gate : G) × MayGiveUp (may_give_up gate)
IsFaultBy may_give_up fault = Unit {0}
