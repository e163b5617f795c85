use Rattle.config_warnings.proofs.Comes.{untold-comes}
use Rattle.config_warnings.proofs.laws.other_dates_come.Goals as goal

pub returns : goal.returns
returns c = untold-comes
