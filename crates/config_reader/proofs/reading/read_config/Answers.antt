use Rattle.config_reader.proofs.FaultsOf.{reads}
use Rattle.config_reader.proofs.reading.read_config.Goals as goal

pub returns-clause-first : goal.returns-clause-first
returns-clause-first c = reads _ _ _ (c.texts_are_refused_by_the_first_fault.ensures.faults c.args.text.now) c.read_whole.ensures
