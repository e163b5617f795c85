use Rattle.meter_effects.proofs.Agreement.{operation-agrees}
use Rattle.meter_effects.proofs.laws.operations_keep_agreement.Goals as goal

pub returns : goal.returns
returns g c = λ class_id name fixed op argument row change set is has s t same agree.
    let C = g.C.InterfaceClass in
    operation-agrees class_id name (C.touched op) (C.own_sources op) (C.row_cells op) (C.new_value fixed op argument)
    (c.laws_of_a_class.ensures.keeps_agreement fixed op argument) row change set is has s t same agree
