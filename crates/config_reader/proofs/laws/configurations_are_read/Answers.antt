use Rattle.config_reader.proofs.ReadTables.{tables_are_read}
use Rattle.config_reader.proofs.laws.configurations_are_read.Goals as goal

pub returns : goal.returns
returns c = record {
  read = tables_are_read;
  faultless = λ text config said nothing. record { read = tables_are_read text config said; judged = nothing };
}
