use Rattle.xdlms_services.proofs.Sending.{blocks_end, blocks_bring_value}
use Rattle.xdlms_services.proofs.laws.blocks_are_the_value.Goals as goal

pub returns : goal.returns
returns c = record { end = blocks_end; bring = blocks_bring_value }
