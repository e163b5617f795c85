use Rattle.std.proofs.lemmas.List.{get_or_default}
use Rattle.object_model.specs.Index.{name_at}
use Rattle.object_model.proofs.Positions.{item-in}
use Rattle.object_model.proofs.references.numbers_in.Goals as goal

pub number_of-number-requires-clause-known : goal.number_of-number-requires-clause-known
number_of-number-requires-clause-known c =
    let names = c.args.names.now in
    let name = name_at names c.loop-name.name-index in
    c.requires name (item-in names c.loop-name.name-index name c.loop-name-test.true (get_or_default names c.loop-name.name-index _ name c.loop-name-test.true))
