use Rattle.std.proofs.Common.{length, ap, ◌∙◌, arith}
use Rattle.std.specs.List.{position_from}
use Rattle.cosem_data.specs.Cells.{same_name}
use Rattle.object_model.proofs.ByObject.{position-map, few-names}
use Rattle.object_model.proofs.plan.Plan.find.Goals as goal

pub returns-clause-found : goal.returns-clause-found
returns-clause-found c =
    c.find-number.ensures.found
    ∙ ap (position_from (λ n. same_name n c.args.name.now) 0) c.self.invariant.named
    ∙ position-map c.self.inside.objects.items c.args.name.now 0
    ∙ ap (λ P. position_from (λ o. same_name o.name c.args.name.now) 0 P.objects) c.self.view_is

pub overflow_add-compared : goal.overflow_add-compared
overflow_add-compared c =
    omega (
      arith,
      c.from.ensures,
      c.requires,
      c.find-number.ensures.counted 10 (few-names c.self.inside.index c.self.inside.objects.items c.self.invariant.named
          (omega (arith, ap (λ P. length P.objects) c.self.view_is, c.known.ensures.sound.few_objects))),
    )

pub returns-clause-counted : goal.returns-clause-counted
returns-clause-counted c =
    omega (
      arith,
      c.from.ensures,
      c.requires,
      c.find-number.ensures.counted 10 (few-names c.self.inside.index c.self.inside.objects.items c.self.invariant.named
          (omega (arith, ap (λ P. length P.objects) c.self.view_is, c.known.ensures.sound.few_objects))),
    )
