use Rattle.std.proofs.Common.{◌≡◌, ◌*◌, Some, take}
use Rattle.std.specs.Result.{result_ok}
use Rattle.hex.specs.Hex.{decode_of}
use Rattle.line_server.proofs.digits.take_digits.Given as goal

-- the bytes of the blocks so far stand in front
abbrev pub invariant-loop-i : goal.invariant-loop-i
invariant-loop-i l = result_ok (decode_of (take (2 * (8 * l.i)) l.digits)) ≡ Some (take (8 * l.i) l.room)
