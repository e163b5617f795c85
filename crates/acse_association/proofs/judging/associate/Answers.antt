use Rattle.std.proofs.Common.{Some}
use Rattle.acse_association.proofs.Judgements.{accepted-range, accepted-client}
use Rattle.acse_association.proofs.judging.associate.Goals as goal

pub returns-clause-range : goal.returns-clause-range
returns-clause-range c = accepted-range c.args.plan.now c.args.source (Some c.in_ok-aarq.aarq) c.judge.result c.judge.ensures

pub returns-clause-client : goal.returns-clause-client
returns-clause-client c = accepted-client c.args.plan.now c.args.source (Some c.in_ok-aarq.aarq) c.judge.result c.judge.ensures
