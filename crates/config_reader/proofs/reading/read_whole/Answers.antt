use Rattle.config_reader.proofs.FaultsOf.{none_judged}
use Rattle.config_reader.proofs.reading.read_whole.Goals as goal

pub judge_and_resolve-requires : goal.judge_and_resolve-requires
judge_and_resolve-requires c = c.configurations_are_read.ensures.read c.args.text.now c.in_ok-parts.parts c.in_ok-parts.ensures.parts

-- no pass found a fault in what the tables say
pub make-requires-clause-faultless : goal.make-requires-clause-faultless
make-requires-clause-faultless c =
    c.configurations_are_read.ensures.faultless c.args.text.now c.in_ok-parts.parts c.in_ok-parts.ensures.parts (none_judged c.in_ok-parts.parts c.in_ok-resolved.ensures.judged)
