use Rattle.std.specs.Prelude.{◌≡◌, IfOk}
use Rattle.std.proofs.Common.{subst}
use Rattle.cosem_data.specs.View.{tree}
use Rattle.cosem_data.specs.Cells.{cell}
use Rattle.meter_theory.specs.Fixed.{fixed}
use Rattle.association_views.proofs.association.fixed_attribute.Goals as goal

pub returns : goal.returns
returns c =
    subst (λ i. IfOk c.fixed_attribute_at.result (λ value. tree value ≡ fixed i.plan c.args.client (cell c.args.cell.now.class_id i.name c.args.cell.now.index)))
    c.instance.ensures (c.fixed_attribute_at.ensures c.args.cell.now.class_id)
