use Rattle.std.proofs.Common.{◌≡◌, Some, None, sym, ◌∙◌, ap}
use Rattle.object_model.specs.Grants.{place_in}
use Rattle.object_model.proofs.grants.place_of.Goals as goal

pub unreachable-requires : goal.unreachable-requires
unreachable-requires c =
    let found : None ≡ Some c.requires.number = sym c.in_default.is ∙ c.find-found.ensures.found ∙ ap (place_in c.args.index.now) c.object.ensures ∙ c.requires.object in
    cc
