use Rattle.std.proofs.Common.{rules, ◌≡◌, ◌∙◌, true, not, ap, Bool}
use Rattle.std.proofs.lemmas.Iterator.{YieldsList-from_slice}
use Rattle.std.proofs.lemmas.Iterator.Search.{any_from_yields_List}
use borrow.Author.Tests.{tests}
use Rattle.std.specs.List.{list_any}
use Rattle.meter_theory.specs.Plan.{Object}
use Rattle.meter_theory.specs.Rights.{has_right}
use Rattle.config_warnings.proofs.AnyRight.{any-right}
use Rattle.config_warnings.proofs.rights.has_no_right.Goals as goal

pub returns : goal.returns
returns c =
    let test : Object → Bool = λ o. has_right c.args.plan.now c.args.client o.name (λ r. true) in
    let each : c.any.result ≡ list_any test c.args.plan.now.objects =
    any_from_yields_List test _ _ c.any.result c.any.ensures.ran (YieldsList-from_slice c.args.plan.now.objects cc) (λ x b q k. search (rules, tests)) in
    ap not (each ∙ any-right c.args.plan.now c.args.client c.known.ensures.sound)
