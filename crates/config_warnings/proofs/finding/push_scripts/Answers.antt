use Rattle.std.proofs.Common.{◌≡◌, ◌<◌, ℕ, List, ◌++◌, ◌∙◌, ap, arith, get_or, length}
use Rattle.meter_theory.specs.Plan.{Object}
use Rattle.meter_theory.specs.Steps.{scripts_of}
use Rattle.config_warnings.specs.Found.{scripts_in}
use Rattle.config_warnings.specs.declared.warning.Warning.{Warning}
use Rattle.config_warnings.proofs.Placed.{placed-more}
use Rattle.config_warnings.proofs.finding.push_scripts.Goals as goal

pub loop-place-preserved : goal.loop-place-preserved
loop-place-preserved c =
    let n = c.loop-place.place in
    let P = c.args.plan.now in
    let x = c.object-item.result in
    let found : ℕ × Object → List Warning = λ o. scripts_in P o.0 o.1.name (scripts_of o.1.part) in
    let item : x ≡ get_or P.objects n x = c.object-item.is ∙ ap (λ objects. get_or objects n x) c.objects-object-items.ensures in
    let within : n < length P.objects = omega (arith, c.loop-place-test.true, ap length c.objects-object-items.ensures) in
    c.in_ok-push_scripts_of.ensures
    ∙ (ap (λ (o : Object). c.loop-place.all.items ++ scripts_in P n o.name (scripts_of o.part)) item
    ∙ (ap (λ all. all ++ found (n, get_or P.objects n x)) c.loop-place.invariant ∙ placed-more found c.args.all.now.items P.objects n x within))
