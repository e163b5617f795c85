use Rattle.std.proofs.Common.{◌∙◌, ap, sym}
use Rattle.cosem_data.specs.Cells.{same_name}
use Rattle.meter_theory.specs.Plan.{object_at}
use Rattle.object_model.proofs.Positions.{first, first-none}
use Rattle.object_model.proofs.instance.Instance.object.Goals as goal

pub returns-in-Some : goal.returns-in-Some
returns-in-Some c =
    let at = first (λ o. same_name o.name c.self.inside.name) c.self.inside.plan.now.objects c.in-Some.number (sym c.self.invariant ∙ c.in-Some.is) in
    c.object.ensures ∙ sym at.found ∙ ap (λ v. object_at v.plan v.name) c.self.view_is

pub returns-in-None : goal.returns-in-None
returns-in-None c =
    sym (first-none (λ o. same_name o.name c.self.inside.name) c.self.inside.plan.now.objects (sym c.self.invariant ∙ c.in-None.is)) ∙ ap (λ v. object_at v.plan v.name) c.self.view_is
