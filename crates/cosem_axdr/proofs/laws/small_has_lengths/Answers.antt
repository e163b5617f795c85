use Rattle.cosem_axdr.proofs.Room.{small_has_lengths}
use Rattle.cosem_axdr.proofs.laws.small_has_lengths.Goals as goal

pub returns : goal.returns
returns c = small_has_lengths
