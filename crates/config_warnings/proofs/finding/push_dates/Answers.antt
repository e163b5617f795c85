use Rattle.std.proofs.Common.{ℕ, List, ◌++◌, ◌∙◌, ap, get_or}
use Rattle.meter_theory.specs.Plan.{Object}
use Rattle.config_warnings.specs.Found.{dates_in, times_of}
use Rattle.config_warnings.specs.declared.warning.Warning.{Warning}
use Rattle.config_warnings.proofs.Placed.{placed-more}
use Rattle.config_warnings.proofs.finding.push_dates.Goals as goal

pub loop-place-preserved : goal.loop-place-preserved
loop-place-preserved c =
    let n = c.loop-place.place in
    let objects = c.args.objects.now in
    let x = c.index-objects-place.result in
    let found : ℕ × Object → List Warning = λ o. dates_in o.0 (times_of o.1.part) in
    c.in_ok-push_dates_of.ensures
    ∙ (ap (λ times. c.loop-place.all.items ++ dates_in n times) (c.times_of.ensures ∙ (ap times_of c.part.ensures ∙ ap (λ (o : Object). times_of o.part) c.index-objects-place.is))
    ∙ (ap (λ all. all ++ found (n, get_or objects n x)) c.loop-place.invariant ∙ placed-more found c.args.all.now.items objects n x c.loop-place-test.true))
