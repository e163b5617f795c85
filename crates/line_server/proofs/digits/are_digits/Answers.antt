use Rattle.line_server.proofs.DigitLanes.{block_kind}
use Rattle.line_server.proofs.digits.are_digits.Goals as goal

pub returns : goal.returns
returns c = block_kind c.args.block c.fits-block.0 c.fits-block.1
