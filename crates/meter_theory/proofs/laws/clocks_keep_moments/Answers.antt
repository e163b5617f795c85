use Rattle.meter_theory.proofs.Clock.{clock_moment-value, kept-twice}
use Rattle.meter_theory.proofs.laws.clocks_keep_moments.Goals as goal

pub returns-clause-moment : goal.returns-clause-moment
returns-clause-moment c = λ t. clock_moment-value t

pub returns-clause-kept : goal.returns-clause-kept
returns-clause-kept c = λ x v. kept-twice x v
