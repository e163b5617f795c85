use Rattle.config_warnings.proofs.NeverComes.{told-never}
use Rattle.config_warnings.proofs.laws.told_times_never_come.Goals as goal

pub returns : goal.returns
returns c = told-never
