use Rattle.line_server.proofs.DigitBlocks.{block_refused, more_bytes}
use Rattle.line_server.proofs.digits.take_block.Goals as goal

pub returns-then-not-are_digits : goal.returns-then-not-are_digits
returns-then-not-are_digits c = block_refused c.args.digits.now c.args.start (λ h. (let is = c.are_digits.ensures.1 h in cc))

pub returns : goal.returns
returns c =
    more_bytes c.args.digits.now c.args.room.now c.bytes_of.result c.args.start c.requires.within c.requires.room c.requires.begun c.bytes_of.ensures
