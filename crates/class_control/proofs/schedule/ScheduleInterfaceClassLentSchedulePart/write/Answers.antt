use Rattle.std.proofs.Common.{ℕ, Bool, refl}
use Rattle.std.specs.Prelude.{◌==◌, ◌||◌}
use Rattle.std.proofs.lemmas.Result.{err_from_is_err_and}
use Rattle.cosem_data.specs.View.{tree}
use Rattle.meter_theory.specs.Value.{ExecutionTimes}
use Rattle.cosem_class.specs.Judged.{judged}
use Rattle.class_control.specs.PartView.{scripts_of_part}
use Rattle.class_control.specs.ScheduleClass.{ScheduleFixed, schedule_rule, is_settable}
use Rattle.class_control.proofs.Refused.{none_from_ok, accepted_at, refused_at, judged_without_memory}
use Rattle.class_control.proofs.schedule.ScheduleInterfaceClassLentSchedulePart.write.Goals as goal

named : ℕ → Bool
named index = (index == 1) || ((index == 2) || (index == 3))

pub returns-in_err-judge_times-in-4-clause-refused : goal.returns-in_err-judge_times-in-4-clause-refused
unfolding named
returns-in_err-judge_times-in-4-clause-refused c =
    let p = err_from_is_err_and c.from_residual.result c.from_residual.ensures.1 in
    let fixed : ScheduleFixed = record { name = c.args.lent.name; script = scripts_of_part c.args.lent.part.now; type = c.args.lent.part.now.execution_type } in
    rw (p.1, p.2) (refused_at (is_settable fixed) named (schedule_rule fixed) (tree c.args.value) c.args.index 4 c.in-4.is refl c.in_err-judge_times-in-4.field-0.0 c.in_err-judge_times-in-4.ensures)

pub returns-in_err-judge_times-in-4-clause-no_memory : goal.returns-in_err-judge_times-in-4-clause-no_memory
returns-in_err-judge_times-in-4-clause-no_memory c =
    let p = err_from_is_err_and c.from_residual.result c.from_residual.ensures.1 in
    rw (p.1, p.2) (λ memory. judged_without_memory (ExecutionTimes c.args.lent.part.now.execution_type) (tree c.args.value) c.in_err-judge_times-in-4.field-0.0 c.in_err-judge_times-in-4.ensures (cc memory))

pub returns-in_ok-judge_times-in-4-clause-refused : goal.returns-in_ok-judge_times-in-4-clause-refused
unfolding named
returns-in_ok-judge_times-in-4-clause-refused c =
    let fixed : ScheduleFixed = record { name = c.args.lent.name; script = scripts_of_part c.args.lent.part.now; type = c.args.lent.part.now.execution_type } in
    accepted_at (is_settable fixed) named (schedule_rule fixed) (tree c.args.value) c.args.index 4 c.in-4.is refl
    (none_from_ok (judged (ExecutionTimes c.args.lent.part.now.execution_type) (tree c.args.value)) _ c.in_ok-judge_times-in-4.ensures)
