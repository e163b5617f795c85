use Rattle.std.proofs.Common.{◌≡◌, ◌<◌, ℕ, List, ◌++◌, ◌∙◌, ap, sym, arith, get_or, length, map}
use Rattle.std.proofs.lemmas.List.{get_or-map, length-map}
use Rattle.cosem_data.specs.Tree.{Tree}
use Rattle.cosem_data.specs.View.{tree}
use Rattle.config_warnings.specs.Dates.{names_no_date}
use Rattle.config_warnings.specs.Found.{warns_if}
use Rattle.config_warnings.specs.declared.warning.Warning.{Warning}
use Rattle.config_warnings.specs.declared.warning.Warning.TheVariants.{NoSuchDate}
use Rattle.config_warnings.proofs.Placed.{placed-more}
use Rattle.config_warnings.proofs.finding.push_dates_of.Goals as goal

pub loop-place-preserved : goal.loop-place-preserved
loop-place-preserved c =
    let n = c.loop-place.place in
    let times = map tree c.args.times.now in
    let x = c.index-times-place.result in
    let found : ℕ × Tree → List Warning = λ time. warns_if (names_no_date time.1) (NoSuchDate c.args.object time.0) in
    let item : tree x ≡ get_or times n (tree x) = ap tree c.index-times-place.is ∙ sym (get_or-map tree c.args.times.now n x (tree x) c.loop-place-test.true) in
    let within : n < length times = omega (arith, c.loop-place-test.true, length-map c.args.times.now tree) in
    c.in_ok-push_if.ensures
    ∙ (ap (λ none. c.loop-place.all.items ++ warns_if none (NoSuchDate c.args.object n)) (c.names_no_date.ensures ∙ ap names_no_date item)
    ∙ (ap (λ all. all ++ found (n, get_or times n (tree x))) c.loop-place.invariant ∙ placed-more found c.args.all.now.items times n (tree x) within))
