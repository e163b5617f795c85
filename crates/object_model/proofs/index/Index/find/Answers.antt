use Rattle.std.proofs.Common.{ap, ◌∙◌, Some}
use Rattle.std.specs.List.{position_from}
use Rattle.std.proofs.lemmas.List.{get_or_default}
use Rattle.cosem_data.specs.Cells.{same_name}
use Rattle.object_model.proofs.Searches.{found-first, found-none}
use Rattle.object_model.proofs.index.Index.find.Goals as goal

pub returns-in-Ok-clause-found : goal.returns-in-Ok-clause-found
returns-in-Ok-clause-found c =
    let at = rw (c.in-Ok.is, c.deref.ensures.value, c.deref-2.ensures.value) at c.search-place.ensures.found in
    ap Some (c.index.ensures ∙ get_or_default c.self.inside.numbers.items c.in-Ok.place c.index.result.now 0 at.0)
    ∙ found-first c.self.inside.names.items c.self.inside.numbers.items c.args.name.now c.in-Ok.place c.self.invariant at.0 at.1
    ∙ ap (λ names. position_from (λ n. same_name n c.args.name.now) 0 names) c.self.view_is

pub returns-in-Err-clause-found : goal.returns-in-Err-clause-found
returns-in-Err-clause-found c =
    let at = rw (c.in-Err.is, c.deref.ensures.value, c.deref-2.ensures.value) at c.search-place.ensures.absent in
    found-none c.self.inside.names.items c.self.inside.numbers.items c.args.name.now c.in-Err.field-0 c.self.invariant at.1 at.2
    ∙ ap (λ names. position_from (λ n. same_name n c.args.name.now) 0 names) c.self.view_is
