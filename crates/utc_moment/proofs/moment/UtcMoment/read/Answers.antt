-- What a search finds too, in three times the time.
use Rattle.std.proofs.Common.{arith}
use Rattle.std.proofs.lemmas.Grind.{common_steps}
use Rattle.utc_moment.proofs.moment.UtcMoment.read.Goals as goal

pub returns-in-90-clause-found : goal.returns-in-90-clause-found
returns-in-90-clause-found c = grind (arith, common_steps)

pub returns-in-90-clause-exact : goal.returns-in-90-clause-exact
returns-in-90-clause-exact c = grind (arith, common_steps)

pub returns-in-90-clause-bare : goal.returns-in-90-clause-bare
returns-in-90-clause-bare c = grind (arith, common_steps)

pub returns-in_default-clause-exact : goal.returns-in_default-clause-exact
returns-in_default-clause-exact c = grind (arith, common_steps)
