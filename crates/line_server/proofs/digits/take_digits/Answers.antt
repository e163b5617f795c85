use Rattle.std.proofs.Common.{◌+◌, ◌*◌, ◌-◌, length, arith}
use Rattle.line_server.proofs.DigitBlocks.{fewer_bytes, nothing_taken, refused_front}
use Rattle.line_server.proofs.digits.take_digits.Goals as goal

pub loop-i-init : goal.loop-i-init
loop-i-init c = nothing_taken

pub returns-then-not-take_block : goal.returns-then-not-take_block
returns-then-not-take_block c = refused_front c.args.digits.now (8 * c.loop-i.i + 8) (omega arith) (omega arith) c.if-not-take_block.ensures

pub take_block-requires-2-clause-begun : goal.take_block-requires-2-clause-begun
take_block-requires-2-clause-begun c =
    fewer_bytes c.args.digits.now c.loop-i.room (length c.loop-i.room - 8) (8 * c.loop-i.i) (omega arith) (omega arith) c.loop-i.invariant
