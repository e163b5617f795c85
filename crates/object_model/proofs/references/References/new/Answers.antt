use Rattle.std.proofs.Common.{◌∙◌, ◌++◌, ap, subst}
use Rattle.meter_theory.specs.Lists.{IsIn}
use Rattle.cosem_class.specs.Parts.{references}
use Rattle.object_model.specs.PartView.{part_of}
use Rattle.object_model.proofs.Positions.{item-in}
use Rattle.object_model.proofs.references.References.new.Goals as goal

pub numbers_in-requires : goal.numbers_in-requires
numbers_in-requires c = λ name i.
    c.requires c.object-item.result (item-in c.args.objects.now c.loop-object.object-index c.object-item.result c.loop-object-test.true c.object-item.is) name
    (subst (λ names. IsIn names name)
    (c.deref.ensures.value ∙ c.in_ok-push_references.ensures ∙ ap (λ xs. xs ++ references (part_of c.part.result.now)) c.clear.ensures.items ∙ ap references c.part.ensures) i)
