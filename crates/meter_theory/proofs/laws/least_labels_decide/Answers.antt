use Rattle.meter_theory.proofs.Admission.{least-admits, admits-passes, refusal-right}
use Rattle.meter_theory.proofs.laws.least_labels_decide.Goals as goal

pub returns-clause-admits : goal.returns-clause-admits
returns-clause-admits c = λ P policy least labels. least-admits P policy least labels

pub returns-clause-refused : goal.returns-clause-refused
returns-clause-refused c = λ P policy least labels r sound l h a.
    refusal-right P policy least r h (admits-passes P policy least sound (least-admits P policy least labels l a))
