use Rattle.std.proofs.Common.{◌∙◌, ap}
use Rattle.cosem_data.specs.View.{tree}
use Rattle.cosem_class.specs.Judged.{coded_answer, coded_answer-judged}
use Rattle.meter_theory.specs.Value.{ExecutionTimes}
use Rattle.class_control.proofs.schedule.times_answer.Goals as goal

pub returns : goal.returns
returns c = c.coded.ensures ∙ ap coded_answer c.judge_times.ensures ∙ coded_answer-judged (ExecutionTimes c.args.execution_type) (tree c.args.value.now)
