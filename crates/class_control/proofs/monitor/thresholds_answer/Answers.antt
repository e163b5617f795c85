use Rattle.std.proofs.Common.{◌∙◌, ap}
use Rattle.cosem_data.specs.View.{tree}
use Rattle.cosem_class.specs.Judged.{coded_answer, coded_answer-judged}
use Rattle.meter_theory.specs.Value.{Thresholds}
use Rattle.class_control.proofs.monitor.thresholds_answer.Goals as goal

pub returns : goal.returns
returns c = c.coded.ensures ∙ ap coded_answer c.judge_thresholds.ensures ∙ coded_answer-judged (Thresholds c.args.number c.args.kind) (tree c.args.value.now)
