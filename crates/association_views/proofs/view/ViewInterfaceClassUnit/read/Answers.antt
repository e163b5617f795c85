use Rattle.std.specs.Prelude.{◌≡◌, Ok, Err, true, if◌then◌else◌}
use Rattle.std.proofs.Common.{ap, sym, ◌∙◌}
use Rattle.cosem_data.specs.View.{tree}
use Rattle.cosem_data.specs.Cells.{cell}
use Rattle.meter_theory.specs.Plan.{association, association_name}
use Rattle.meter_theory.specs.Fixed.{fixed}
use Rattle.cosem_class.specs.declared.class.ClassFault.TheVariants.{NoIndex}
use Rattle.association_views.specs.AssociationClass.{has_value}
use Rattle.association_views.proofs.view.ViewInterfaceClassUnit.read.Goals as goal

pub returns : goal.returns
returns c =
    let with_value : has_value c.args.index ≡ true = sym c.has_value.ensures ∙ c.if-not-has_value.false in
    let value_is : tree c.in_ok-fixed_attribute_at.field-0 ≡ fixed c.args.self.now.plan c.args.self.now.client (cell association.class_id association_name c.args.index) =
    c.in_ok-fixed_attribute_at.ensures association.class_id
    ∙ (ap (λ i. fixed i.plan c.self.inside.client (cell association.class_id i.name c.args.index)) c.instance-association.ensures
    ∙ ap (λ v. fixed v.plan v.client (cell association.class_id association_name c.args.index)) c.self.view_is) in
    ap (λ b. if b then Ok (fixed c.args.self.now.plan c.args.self.now.client (cell association.class_id association_name c.args.index)) else Err NoIndex) with_value
    ∙ ap Ok (sym value_is)
