use Rattle.cosem_axdr.proofs.FirstFaults.{first_fault_decides, short_is_front}
use Rattle.cosem_axdr.proofs.laws.first_fault_decides.Goals as goal

pub returns-clause-bad_byte : goal.returns-clause-bad_byte
returns-clause-bad_byte c = first_fault_decides

pub returns-clause-missing_bytes : goal.returns-clause-missing_bytes
returns-clause-missing_bytes c = short_is_front
