use Rattle.std.proofs.Common.{◌≡◌, ◌*◌, take, drop}
use Rattle.hex.specs.Hex.{decode_pairs}
use Rattle.hex.proofs.Pairs.{prepend}
use Rattle.line_server.proofs.digits.take_few_digits.Given as goal

-- the bytes so far stand in front of what the digits that are left come to
abbrev pub invariant-bytes : goal.invariant-bytes
invariant-bytes l = decode_pairs 0 l.digits ≡ prepend (take l.i l.room) (decode_pairs (2 * l.i) (drop (2 * l.i) l.digits))
