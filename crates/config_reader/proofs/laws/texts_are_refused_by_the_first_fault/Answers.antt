use Rattle.config_reader.proofs.FaultsOf.{faults_first}
use Rattle.config_reader.proofs.laws.texts_are_refused_by_the_first_fault.Goals as goal

pub returns : goal.returns
returns c = record { faults = faults_first }
