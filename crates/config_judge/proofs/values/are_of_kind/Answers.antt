use Rattle.std.proofs.Common.{rules, ◌≡◌, sym, ◌∙◌, Bool}
use Rattle.std.proofs.lemmas.Iterator.{YieldsList-from_slice}
use Rattle.std.proofs.lemmas.Iterator.Search.{all_from_yields_List}
use borrow.Author.Tests.{tests}
use Rattle.std.specs.List.{list_all}
use Rattle.std.proofs.lemmas.List.Folds.{list_all-map}
use Rattle.cosem_data.specs.Tree.{Tree}
use Rattle.cosem_data.specs.View.{tree}
use Rattle.config_rules.specs.Values.{has_kind}
use Rattle.config_judge.proofs.values.are_of_kind.Goals as goal

pub returns : goal.returns
returns c =
    let test : Tree → Bool = λ v. has_kind c.args.kind v in
    let each : c.all.result ≡ list_all (λ x. test (tree x)) c.args.values.now =
    all_from_yields_List (λ x. test (tree x)) _ _ c.all.result c.all.ensures.ran (YieldsList-from_slice c.args.values.now cc) (λ x b q k. search (rules, tests)) in
    each ∙ sym (list_all-map test tree c.args.values.now)
