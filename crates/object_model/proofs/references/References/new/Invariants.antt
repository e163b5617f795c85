use Rattle.std.proofs.Common.{◌≡◌, map, take, Some}
use Rattle.object_model.specs.Grants.{place_in}
use Rattle.cosem_class.specs.Parts.{references}
use Rattle.object_model.proofs.references.References.new.Given as goal

abbrev pub invariant-loop-object : goal.invariant-loop-object
invariant-loop-object l =
    map (map Some) (map (λ numbers. numbers.items) l.numbers.items) ≡ map (λ o. map (place_in l.index) (references o.part)) (take l.object-index l.objects)
