use Rattle.line_server.proofs.DigitBlocks.{more_digits}
use Rattle.line_server.proofs.digits.put_block.Goals as goal

pub returns : goal.returns
returns c = more_digits c.args.bytes.now c.args.room.now c.digits_of.result c.args.start c.requires.within c.requires.room c.requires.begun c.digits_of.ensures
