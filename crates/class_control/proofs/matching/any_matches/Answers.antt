use Rattle.std.proofs.Common.{rules, ◌≡◌, sym, ◌∙◌, Bool}
use Rattle.std.proofs.lemmas.Iterator.{YieldsList-from_slice}
use Rattle.std.proofs.lemmas.Iterator.Search.{any_from_yields_List}
use borrow.Author.Tests.{tests}
use Rattle.std.specs.List.{list_any}
use Rattle.cosem_data.specs.Tree.{Tree}
use Rattle.cosem_data.specs.View.{tree}
use Rattle.meter_theory.specs.Times as theory
use Rattle.class_control.proofs.AnyOfMapped.{list_any-map}
use Rattle.class_control.proofs.matching.any_matches.Goals as goal

pub returns : goal.returns
returns c =
    let test : Tree → Bool = λ v. theory.matches v c.args.moment in
    let each : c.any.result ≡ list_any (λ x. test (tree x)) c.args.values.now =
    any_from_yields_List (λ x. test (tree x)) _ _ c.any.result c.any.ensures.ran (YieldsList-from_slice c.args.values.now cc) (λ x b q k. search (rules, tests)) in
    each ∙ sym (list_any-map test tree c.args.values.now)
