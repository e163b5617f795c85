use Rattle.acse_association.proofs.FieldsRead.{one_aarq}
use Rattle.acse_association.proofs.laws.one_aarq.Goals as goal

pub returns : goal.returns
returns c = one_aarq
