use Rattle.std.proofs.Common.{not, ap, ◌∙◌}
use Rattle.meter_core.specs.StepView.{step_of}
use Rattle.meter_theory.specs.Labels.{labelling_of_policy}
use Rattle.flow_checker.proofs.Looked.{unnoticed}
use Rattle.flow_checker.proofs.notice.quiet.Goals as goal

pub returns-clause-quiet : goal.returns-clause-quiet
returns-clause-quiet c quiet =
    let P = c.args.checked.now.plan in
    let Q = labelling_of_policy P c.args.checked.now.policy in
    let step = step_of c.args.step.now in
    (c.steps_are_noticed.ensures.quiet P Q c.args.client step
    (unnoticed P Q c.args.client step c.first_notice.result c.first_notice.ensures (c.is_none.ensures ∙ ap not quiet) (c.steps_are_noticed.ensures.told P Q c.args.client step).1)).0

pub returns-clause-quiet_of_kinds : goal.returns-clause-quiet_of_kinds
returns-clause-quiet_of_kinds c quiet =
    let P = c.args.checked.now.plan in
    let Q = labelling_of_policy P c.args.checked.now.policy in
    let step = step_of c.args.step.now in
    (c.steps_are_noticed.ensures.quiet P Q c.args.client step
    (unnoticed P Q c.args.client step c.first_notice.result c.first_notice.ensures (c.is_none.ensures ∙ ap not quiet) (c.steps_are_noticed.ensures.told P Q c.args.client step).1)).1
