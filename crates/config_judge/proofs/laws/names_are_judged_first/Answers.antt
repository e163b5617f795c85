use Rattle.config_judge.proofs.Halves.{judged_by_halves}
use Rattle.config_judge.proofs.laws.names_are_judged_first.Goals as goal

pub returns : goal.returns
returns c = record { halves = judged_by_halves }
