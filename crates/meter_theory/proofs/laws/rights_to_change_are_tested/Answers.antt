use Rattle.meter_theory.proofs.Check.{method_cells}
use Rattle.meter_theory.proofs.Admission.{changer_from, changer_found}
use Rattle.meter_theory.proofs.laws.rights_to_change_are_tested.Goals as goal

pub returns-clause-tested : goal.returns-clause-tested
returns-clause-tested c = λ P d x there. (changer_from P d x there, changer_found P d x)

pub returns-clause-cells : goal.returns-clause-cells
returns-clause-cells c = λ P m x sound. method_cells P sound m x
