use Rattle.live_server.specs.Seats.{AreTakenFrom}
use Rattle.live_server.proofs.seats.taken_from.Given as goal

-- the seats before this one are freed
abbrev pub invariant-loop-seat : goal.invariant-loop-seat
invariant-loop-seat l = AreTakenFrom l.seat l.is_taken
