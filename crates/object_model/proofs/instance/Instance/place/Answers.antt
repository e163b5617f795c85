use Rattle.std.proofs.Common.{◌∙◌, sym, arith}
use Rattle.cosem_data.specs.Cells.{same_name}
use Rattle.object_model.proofs.Positions.{first}
use Rattle.object_model.proofs.instance.Instance.place.Goals as goal

pub place-requires : goal.place-requires
place-requires c =
    let at = first (λ o. same_name o.name c.self.inside.name) c.self.inside.plan.now.objects c.in-Some.number (sym c.self.invariant ∙ c.in-Some.is) in
    omega (arith, at.within)
