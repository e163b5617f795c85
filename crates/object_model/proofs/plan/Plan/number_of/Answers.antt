use Rattle.std.proofs.Common.{◌∙◌, ap}
use Rattle.std.specs.List.{position_from}
use Rattle.cosem_data.specs.Cells.{same_name}
use Rattle.object_model.proofs.ByObject.{position-map}
use Rattle.object_model.proofs.plan.Plan.number_of.Goals as goal

pub returns : goal.returns
returns c =
    c.find-number.ensures.found
    ∙ ap (position_from (λ n. same_name n c.args.name.now) 0) c.self.invariant.named
    ∙ position-map c.self.inside.objects.items c.args.name.now 0
    ∙ ap (λ P. position_from (λ o. same_name o.name c.args.name.now) 0 P.objects) c.self.view_is
