use Rattle.std.proofs.Common.{◌∙◌, ap, is_some}
use Rattle.config_judge.proofs.ClockTimes.{read_there}
use Rattle.config_judge.proofs.value.is_moment_text.Goals as goal

pub returns : goal.returns
returns c = c.is_ok.ensures.value ∙ read_there c.read.result ∙ ap is_some c.read.ensures.value
