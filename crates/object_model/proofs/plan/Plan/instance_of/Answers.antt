use Rattle.std.proofs.Common.{◌≡◌, ◌∙◌, refl, ap, ap₂, sym, subst, get_or, Some}
use Rattle.std.specs.Prelude.{slice_get, IfSome}
use Rattle.std.proofs.lemmas.Option.{slice_get_read}
use Rattle.object_model.specs.InstanceView.{AtName}
use Rattle.object_model.specs.Tables.{number_at}
use Rattle.object_model.proofs.Numbered.{number_here}
use Rattle.object_model.proofs.plan.Plan.instance_of.Goals as goal
use Rattle.object_model.proofs.plan.Plan.instance_of.Goals.{After-name}

-- the object under the number
there : (c : After-name) → slice_get c.args.self.now.objects c.args.number ≡ Some c.index-objects-from.result
there c =
    slice_get_read c.args.self.now.objects _ c.args.number c.index-objects-from.result refl c.requires
    (c.index-objects-from.is ∙ ap₂ (λ os k. get_or os k c.index-objects-from.result) c.objects.ensures c.from.ensures)

pub invariant_of-result : goal.invariant_of-result
invariant_of-result c =
    sym (number_here c.args.self.now.objects c.args.number c.index-objects-from.result c.known.ensures.sound.names (there c))
    ∙ ap (number_at c.args.self.now.objects) (sym c.name.ensures)

pub returns : goal.returns
returns c =
    subst (λ r. IfSome r (λ o. ◌≡◌ {A = AtName} (record { plan = c.args.self.now; name = c.name.result }) (record { plan = c.args.self.now; name = o.name }))) (sym (there c))
    (ap (λ n. record { plan = c.args.self.now; name = n }) c.name.ensures)
