use Rattle.live_server.specs.Seats.{AreTaken}
use Rattle.live_server.proofs.seats.Taken.lowest_free.Given as goal

-- the seats before this one are taken
abbrev pub invariant-loop-seat : goal.invariant-loop-seat
invariant-loop-seat g l = AreTaken l.seat l.self.is_taken
