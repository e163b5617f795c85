use Rattle.meter_theory.proofs.Start.{start-is-state}
use Rattle.meter_theory.proofs.KeepSteps.{step-keeps, run-keeps}
use Rattle.meter_theory.proofs.laws.states_are_kept.Goals as goal

pub returns-clause-start : goal.returns-clause-start
returns-clause-start c = λ P sound. start-is-state P sound

pub returns-clause-step : goal.returns-clause-step
returns-clause-step c = λ P s step sound k. step-keeps P sound s step k

pub returns-clause-run : goal.returns-clause-run
returns-clause-run c = λ P s l sound k. run-keeps P sound s l k
