use Rattle.std.proofs.Common.{subst, sym}
use Rattle.meter_theory.specs.Check.{Refuses}
use Rattle.meter_theory.specs.Labels.{labelling_of_policy}
use Rattle.flow_checker.specs.Answer.{IsAnswer, IsRefusedAs}
use Rattle.flow_checker.proofs.check.verdict_on.Goals as goal

pub returns-in-None-clause-admitted : goal.returns-in-None-clause-admitted
returns-in-None-clause-admitted c =
    let P = c.args.map.now.plan in
    let policy = labelling_of_policy P c.args.map.now.policy in
    let labels = c.args.labels.now in
    (c.tests_decide_admission.ensures.decided P policy labels c.known.ensures.sound).0 (subst (IsAnswer P policy labels) c.in-None.is c.in_ok-first_refusal.ensures)

pub returns-in-Some-clause-refused : goal.returns-in-Some-clause-refused
returns-in-Some-clause-refused c =
    let P = c.args.map.now.plan in
    let policy = labelling_of_policy P c.args.map.now.policy in
    let labels = c.args.labels.now in
    let refused = subst (IsAnswer P policy labels) c.in-Some.is c.in_ok-first_refusal.ensures in
    subst (λ Q. IsRefusedAs Q policy labels c.told.result) c.plan.ensures
    (c.told.ensures policy labels (subst (λ Q. Refuses Q policy labels c.in-Some.refusal) (sym c.plan.ensures) refused))
