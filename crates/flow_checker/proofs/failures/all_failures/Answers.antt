use Rattle.std.proofs.Common.{◌≡◌, IfOk, ap₂, subst}
use Rattle.meter_theory.specs.Labels.{labelling_of_policy}
use Rattle.flow_checker.specs.Failures.{failures}
use Rattle.flow_checker.proofs.FirstFails.{nothing-told}
use Rattle.flow_checker.proofs.failures.all_failures.Goals as goal

pub returns-clause-all : goal.returns-clause-all
returns-clause-all c =
    subst (λ fs. IfOk c.failures.result (λ found. found.items ≡ fs))
    (ap₂ (λ map given. failures map.plan (labelling_of_policy map.plan map.policy) given) c.in_ok-new.ensures.map c.in_ok-new.ensures.labels)
    c.failures.ensures

pub returns-clause-nothing : goal.returns-clause-nothing
returns-clause-nothing c =
    let P = c.args.map.now.plan in
    let policy = labelling_of_policy P c.args.map.now.policy in
    let labels = c.args.labels.now in
    nothing-told P policy labels c.failures.result (c.tests_decide_admission.ensures.decided P policy labels c.known.ensures.sound) (returns-clause-all c)
