use Rattle.line_server.proofs.DigitLanes.{block_joined}
use Rattle.line_server.proofs.digits.bytes_of.Goals as goal

pub returns : goal.returns
returns c = block_joined c.args.block c.fits-block.0 c.fits-block.1 c.requires
