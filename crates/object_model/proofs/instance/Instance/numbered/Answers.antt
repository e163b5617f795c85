use Rattle.std.proofs.Common.{◌≡◌, ◌∙◌, ap, ap₂, sym, arith, length, get_or, Some}
use Rattle.std.specs.List.{position_from}
use Rattle.cosem_data.specs.Cells.{same_name}
use Rattle.cosem_data.specs.declared.name.LogicalName.{LogicalName}
use Rattle.cosem_data.proofs.Same.{same_name-true}
use Rattle.object_model.proofs.Positions.{first}
use Rattle.object_model.proofs.instance.Instance.numbered.Goals as goal
use Rattle.object_model.proofs.instance.Instance.numbered.Goals.{After-name}

pub bounds-objects-from : goal.bounds-objects-from
bounds-objects-from c =
    let at = first (λ o. same_name o.name c.requires.0) c.args.plan.now.objects c.args.number c.requires.1 in
    omega (arith, c.from.ensures, ap length c.objects.ensures, at.within)

-- what has the number has the name
named : (c : After-name) → (name : LogicalName) → position_from (λ o. same_name o.name name) 0 c.args.plan.now.objects ≡ Some c.args.number → c.name.result ≡ name
named c name is =
    let at = first (λ o. same_name o.name name) c.args.plan.now.objects c.args.number is in
    c.name.ensures
    ∙ ap (λ o. o.name) (c.index-objects-from.is ∙ ap₂ (λ os k. get_or os k c.index-objects-from.result) c.objects.ensures c.from.ensures)
    ∙ same_name-true (get_or c.args.plan.now.objects c.args.number c.index-objects-from.result).name name (at.passes c.index-objects-from.result)

pub invariant_of-result : goal.invariant_of-result
invariant_of-result c = sym c.requires.1 ∙ ap (λ m. position_from (λ o. same_name o.name m) 0 c.args.plan.now.objects) (sym (named c c.requires.0 c.requires.1))

pub returns : goal.returns
returns c = λ name is. ap (λ m. record { plan = c.args.plan.now; name = m }) (named c name is)
