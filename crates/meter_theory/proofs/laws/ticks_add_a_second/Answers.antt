use Rattle.std.proofs.Common.{refl}
use Rattle.meter_theory.proofs.Clock.{next_second-is_moment}
use Rattle.meter_theory.proofs.Ticks.{one_second}
use Rattle.meter_theory.proofs.laws.ticks_add_a_second.Goals as goal

pub returns-clause-moment : goal.returns-clause-moment
returns-clause-moment c = λ t h. next_second-is_moment t h

pub returns-clause-second : goal.returns-clause-second
returns-clause-second c = λ t h other. one_second t h other

pub returns-clause-last : goal.returns-clause-last
returns-clause-last c = refl
