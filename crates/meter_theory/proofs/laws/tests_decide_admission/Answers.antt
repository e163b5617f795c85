use Rattle.meter_theory.proofs.Unique.{refusal-unique}
use Rattle.meter_theory.proofs.Admission.{passes-admits, admits-passes, refusal-right}
use Rattle.meter_theory.proofs.laws.tests_decide_admission.Goals as goal

pub returns-clause-decided : goal.returns-clause-decided
returns-clause-decided c = λ P policy labels sound. (passes-admits P policy labels sound, admits-passes P policy labels sound)

pub returns-clause-refused : goal.returns-clause-refused
returns-clause-refused c = λ P policy labels r sound h a. refusal-right P policy labels r h (admits-passes P policy labels sound a)

pub returns-clause-unique : goal.returns-clause-unique
returns-clause-unique c = λ P policy labels r q h k. refusal-unique P policy labels r q h k
