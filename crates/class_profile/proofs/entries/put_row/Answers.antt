use Rattle.std.proofs.Common.{◌++◌, ◌∙◌, ap, sym, subst}
use Rattle.std.proofs.lemmas.Result.{on_ok_weaker}
use Rattle.cosem_axdr.specs.Canonical.{canonical, HasLengths}
use Rattle.cosem_axdr.specs.Laws.{HasRanges}
use Rattle.class_profile.specs.EntriesView.{shown}
use Rattle.class_profile.proofs.entries.put_row.Goals as goal

pub put_structure-requires : goal.put_structure-requires
put_structure-requires c = subst HasLengths (sym (c.columns_of.ensures ∙ ap (λ columns. shown columns c.args.row.now) (sym c.in-Some.is))) c.requires

pub returns-in-Some-clause-ok : goal.returns-in-Some-clause-ok
returns-in-Some-clause-ok c =
    let is = c.columns_of.ensures ∙ ap (λ columns. shown columns c.args.row.now) (sym c.in-Some.is) in
    on_ok_weaker c.put_structure.result (λ written. written ∙ ap (λ row. c.args.out.now.items ++ canonical row) is) c.put_structure.ensures.ok

pub returns-in-Some-clause-ranges : goal.returns-in-Some-clause-ranges
returns-in-Some-clause-ranges c =
    let is = c.columns_of.ensures ∙ ap (λ columns. shown columns c.args.row.now) (sym c.in-Some.is) in
    on_ok_weaker c.put_structure.result (subst HasRanges is) c.put_structure.ensures.ranges
