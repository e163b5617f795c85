use Rattle.xdlms_services.proofs.Sizes.{length-block_bytes, most_raw_fits}
use Rattle.xdlms_services.proofs.laws.blocks_keep_within_the_limit.Goals as goal

pub returns : goal.returns
returns c = record { size = length-block_bytes; most = most_raw_fits }
