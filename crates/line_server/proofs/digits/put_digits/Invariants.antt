use Rattle.std.proofs.Common.{◌≡◌, ◌*◌, take}
use Rattle.hex.specs.Hex.{encode_upper}
use Rattle.line_server.proofs.digits.put_digits.Given as goal

-- the digits of the blocks so far stand in front
abbrev pub invariant-loop-i : goal.invariant-loop-i
invariant-loop-i l = take (2 * (8 * l.i)) l.room ≡ encode_upper (take (8 * l.i) l.bytes)
