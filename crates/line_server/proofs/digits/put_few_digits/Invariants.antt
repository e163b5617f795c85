use Rattle.std.proofs.Common.{◌≡◌, ◌*◌, ◌++◌, take, drop}
use Rattle.hex.specs.Hex.{encode_upper}
use Rattle.line_server.proofs.digits.put_few_digits.Given as goal

-- the digits so far, and those of the bytes that are left, are the digits of all
abbrev pub invariant-bytes : goal.invariant-bytes
invariant-bytes l = take (2 * l.i) l.room ++ encode_upper (drop l.i l.bytes) ≡ encode_upper l.bytes
