use Rattle.xdlms_services.proofs.OneBlock.{one_block_lem, one_fault_lem, block_is_no_fault}
use Rattle.xdlms_services.proofs.laws.one_block.Goals as goal

pub returns : goal.returns
returns c = record { block = one_block_lem; fault = one_fault_lem; apart = block_is_no_fault }
