use Rattle.std.proofs.Common.{◌∙◌}
use Rattle.cosem_data.specs.View.{tree}
use Rattle.config_judge.proofs.ClockTimes.{judged_time}
use Rattle.config_judge.proofs.values.may_be_clock_time.Goals as goal

pub returns : goal.returns
returns c = c.is_ok.ensures.value ∙ judged_time (tree c.args.value.now) c.judge_time.result c.judge_time.ensures
