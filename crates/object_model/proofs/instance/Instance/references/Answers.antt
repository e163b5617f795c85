use Rattle.std.proofs.Common.{◌∙◌, sym, subst, arith, []}
use Rattle.cosem_data.specs.Cells.{same_name}
use Rattle.object_model.specs.Tables.{AreNumbers, references_at}
use Rattle.object_model.proofs.Columns.{numbers-at, numbers-none}
use Rattle.object_model.proofs.Positions.{first}
use Rattle.object_model.proofs.instance.Instance.references.Goals as goal

pub references-requires : goal.references-requires
references-requires c =
    let at = first (λ o. same_name o.name c.self.inside.name) c.self.inside.plan.now.objects c.in-Some.number (sym c.self.invariant ∙ c.in-Some.is) in
    omega (arith, at.within)

pub returns-in-Some : goal.returns-in-Some
returns-in-Some c =
    subst (λ v. AreNumbers v.plan (references_at v.plan v.name) c.references.result.now) c.self.view_is
    (numbers-at c.self.inside.plan.now c.self.inside.name c.in-Some.number c.references.result.now (sym c.self.invariant ∙ c.in-Some.is) c.references.ensures)

pub returns-in-None : goal.returns-in-None
returns-in-None c =
    subst (λ v. AreNumbers v.plan (references_at v.plan v.name) []) c.self.view_is
    (numbers-none c.self.inside.plan.now c.self.inside.name (sym c.self.invariant ∙ c.in-None.is))
