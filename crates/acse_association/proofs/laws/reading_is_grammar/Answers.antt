use Rattle.acse_association.proofs.FieldsRead.{fields_are_read, aarq_is_read}
use Rattle.acse_association.proofs.InitiateRead.{initiate_is_read}
use Rattle.acse_association.proofs.laws.reading_is_grammar.Goals as goal

pub returns-clause-fields : goal.returns-clause-fields
returns-clause-fields c = fields_are_read

pub returns-clause-aarq : goal.returns-clause-aarq
returns-clause-aarq c = aarq_is_read

pub returns-clause-initiate : goal.returns-clause-initiate
returns-clause-initiate c = initiate_is_read
