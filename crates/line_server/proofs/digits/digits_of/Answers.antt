use Rattle.line_server.proofs.DigitLanes.{block_figures}
use Rattle.line_server.proofs.digits.digits_of.Goals as goal

pub returns : goal.returns
returns c = block_figures c.args.block c.fits-block.0 c.fits-block.1
