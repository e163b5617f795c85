use Rattle.std.proofs.Common.{◌≡◌, subst}
use Rattle.cosem_data.specs.Cells.{cell}
use Rattle.meter_theory.specs.Labels.{has}
use Rattle.meter_theory.specs.Rights.{may_get, may_set}
use Rattle.label_certificate.proofs.granted.own_label.Goals as goal

pub numbered-instance-requires : goal.numbered-instance-requires
numbered-instance-requires c = (c.args.cell.now.name, c.requires)

pub returns-clause-influence : goal.returns-clause-influence
returns-clause-influence c = λ d.
    subst (λ i. has c.clients_with.result d ≡ may_set i.plan d (cell 0 i.name c.args.cell.now.index)) (c.numbered-instance.ensures _ c.requires) (c.clients_with.ensures d)

pub returns-clause-learn : goal.returns-clause-learn
returns-clause-learn c = λ d.
    subst (λ i. has c.clients_with-2.result d ≡ may_get i.plan d (cell 0 i.name c.args.cell.now.index)) (c.numbered-instance.ensures _ c.requires) (c.clients_with-2.ensures d)
