use Rattle.std.proofs.Common.{◌*◌, ◌-◌, length, arith}
use Rattle.line_server.proofs.DigitBlocks.{fewer_digits, no_byte}
use Rattle.line_server.proofs.digits.put_digits.Goals as goal

pub loop-i-init : goal.loop-i-init
loop-i-init c = no_byte

pub put_block-requires-2-clause-begun : goal.put_block-requires-2-clause-begun
put_block-requires-2-clause-begun c =
    fewer_digits c.args.bytes.now c.loop-i.room (length c.args.bytes.now - 8) (8 * c.loop-i.i) (omega arith) (omega arith) c.loop-i.invariant
