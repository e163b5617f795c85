use Rattle.std.proofs.Common.{◌≡◌, sym, subst}
use Rattle.std.specs.Prelude.{option_map}
use Rattle.meter_core.specs.StepView.{step_of}
use Rattle.meter_theory.specs.Labels.{labelling_of_policy}
use Rattle.meter_theory.specs.Notice as theory
use Rattle.flow_checker.specs.Notices.{notice_of}
use Rattle.flow_checker.proofs.notice.first_notice.Goals as goal

pub returns-in-ClockAt : goal.returns-in-ClockAt
returns-in-ClockAt c =
    let P = c.args.checked.now.plan in
    subst (λ step. option_map notice_of c.told_moment.result ≡ theory.first_notice P (labelling_of_policy P c.args.checked.now.policy) c.args.client (step_of step))
    (sym c.in-ClockAt.is) (c.told_moment.ensures c.args.client c.in-ClockAt.moment)
