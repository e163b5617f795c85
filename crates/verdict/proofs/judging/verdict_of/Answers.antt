use Rattle.config_reader.specs.ConfigOf.{config_of}
use Rattle.verdict.proofs.Judged.{judged}
use Rattle.verdict.proofs.judging.verdict_of.Goals as goal

pub returns-in-Ok : goal.returns-in-Ok
returns-in-Ok c = judged (c.in-Ok.plan, c.in-Ok.policy) (config_of c.args.config.now) c.args.labels.now c.judge_labels.result c.in-Ok.ensures.first c.judge_labels.ensures
