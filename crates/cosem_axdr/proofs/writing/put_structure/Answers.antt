use Rattle.std.proofs.Common.{◌++◌, ◌∷◌, map, ap, refl, ◌∙◌}
use Rattle.std.proofs.lemmas.Result.{on_ok_weaker}
use Rattle.cosem_data.specs.Kinds.{tag_of}
use Rattle.cosem_data.specs.View.{tree}
use Rattle.cosem_data.specs.declared.kind.Kind.TheVariants.{Structure}
use Rattle.cosem_axdr.proofs.Parts.{part_lengths, part_content}
use Rattle.cosem_axdr.proofs.writing.put_structure.Goals as goal

pub put_parts-requires-clause-few : goal.put_parts-requires-clause-few
put_parts-requires-clause-few c = (part_lengths (map tree c.args.parts.now) c.args.parts.now refl c.requires).0

pub returns-clause-ok : goal.returns-clause-ok
returns-clause-ok c =
    on_ok_weaker c.put_parts.result
    (λ written. written ∙ ap (λ content. c.args.out.now.items ++ tag_of Structure ∷ content) (part_content (map tree c.args.parts.now) c.args.parts.now refl))
    c.put_parts.ensures.ok
